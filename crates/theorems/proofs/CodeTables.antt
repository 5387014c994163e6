-- The formulas for the third code and the code after a code give what the two tables of docs/RULES.md, Mask codes and
-- public bits, give: in each code, and so in every netlist that Mask makes.
use Prim.Native.Nat.{ℕ, ◌+◌, ◌-◌, ◌≤◌}
use mathlib.Core.Path.{◌≡◌, refl, sym, ap, ap₂, ◌∙◌}
use mathlib.Core.Bool.{Bool, cond, not}
use mathlib.Core.List.{List, [], ◌∷◌, ◌++◌}
use lib.Dec.{T, eqb, eqb→eq}
use lib.ListN.{set, drop}
use Rattle.netlist.specs.declared.Gate.{Gate}
use Rattle.netlist.specs.declared.Gate.TheVariants.{Xor, And, Inv, Eqw, Eq}
use Rattle.netlist.specs.declared.Twin.{Twin}
use Rattle.netlist.specs.Lists.{every}
use Rattle.netlist.specs.Netlist.{Netlist, input_bits, output_bits, result}
use Rattle.netlist.specs.Eval.{differs}
use Rattle.netlist.specs.Read.{operands_given, is_given, gates_good}
use Rattle.masking.specs.Mask.{is_code, is_wanted, third, after, mask_wire, rows, row_gates, changes, change_gates}
use Rattle.masking.specs.Mask.{changed, past, xor_gates, xor_twin, and_gates, State, twin, emit, result_twin, advance}
use Rattle.masking.specs.Mask.{emit_all, advance_all, public_gates, mask_gates, start, out_gate, out_codes, out_gates}
use Rattle.masking.specs.Mask.{finish, out_twins, Masked, mask_netlist}
use Rattle.masking.specs.Leak.{mask_of}
use Rattle.netlist.proofs.EachNumber.{every_bit, every_bit-at, same, same-eq}
use Rattle.netlist.proofs.Tests.{both, on_bool, All, all_head, all_tail}
use Rattle.masking.proofs.CodeLaws.{every_code-at, every_two-at, after-code, after-other, wanted-code}
use Rattle.netlist.proofs.GoodGates.{GoodGate, good_gate}
use Rattle.masking.proofs.Placed.{Placed, prepare, AllPlaced, place-gate}
use Rattle.masking.proofs.OutputGates.{wanted-other}
use Rattle.masking.proofs.MaskInputs.{MaskInputs, mask-inputs}
use Rattle.masking.proofs.Shape.{start-placed, outs-placed}
use Rattle.theorems.specs.CodeTables.{third_table, after_table, change_gates_by_tables, changed_by_tables}
use Rattle.theorems.specs.CodeTables.{xor_gates_by_tables, xor_twin_by_tables, and_gates_by_tables, emit_by_tables}
use Rattle.theorems.specs.CodeTables.{result_twin_by_tables, advance_by_tables, emit_all_by_tables}
use Rattle.theorems.specs.CodeTables.{advance_all_by_tables, out_gate_by_tables, out_gates_by_tables}
use Rattle.theorems.specs.CodeTables.{output_twins, assembled, mask_netlist_by_tables}
use Rattle.theorems.specs.Codes.{ThirdAsTold, AfterAsTold, SameByTables, ThirdIsSum}

pub third_told : (e f : ℕ) → T (is_code e) → T (is_code f) → T (not (eqb e f)) → third_table e f ≡ third e f
third_told e f c d n = eqb→eq _ _ (every_two-at (λ e f. eqb (third_table e f) (third e f)) tt e f c d n)

pub after_told : (e : ℕ) → T (is_code e) → after_table e ≡ after e
after_told e c = eqb→eq _ _ (every_code-at (λ e. eqb (after_table e) (after e)) tt e c)

-- a formula is applied only where the table has an entry: to a code, and to two different codes
module _ (n c : ℕ) (A B : Twin) (p : T (is_code A.code)) (q : T (is_code B.code)) where
  change-same : change_gates_by_tables n c A B ≡ change_gates n c A B
  change-same = ap (λ e. cond (changes A B) (Xor B.wire (mask_wire n e) c ∷ []) []) (after_told B.code q)

  changed-same : changed_by_tables c A B ≡ changed c A B
  changed-same =
      let e = B.code in
      let a : third_table e (after_table e) ≡ third e (after e) =
      ap (third_table e) (after_told e q) ∙ third_told e (after e) q (after-code e q) (after-other e q) in
      ap (λ (f : ℕ). cond (changes A B) (record { wire = c; code = f }) B) a

module _ (n c : ℕ) (A B : Twin) (r : n + 5 ≤ c) (P : Placed c A) (Q : Placed c B) where
  xor-gates-same : xor_gates_by_tables n c A B ≡ xor_gates n c A B
  xor-gates-same =
      ap₂ (λ (gs : List Gate) (D : Twin). gs ++ (Xor A.wire D.wire (past c A B) ∷ []))
      (change-same n c A B P.code Q.code) (changed-same n c A B P.code Q.code)

  xor-twin-same : xor_twin_by_tables c A B ≡ xor_twin c A B
  xor-twin-same =
      let E = prepare n c A B r P Q in
      ap (λ (f : ℕ). record { wire = past c A B; code = f })
      (ap (λ (D : Twin). third_table A.code D.code) (changed-same n c A B P.code Q.code)
      ∙ third_told A.code (changed c A B).code P.code E.second.code E.other)

  and-gates-same : and_gates_by_tables n c A B ≡ and_gates n c A B
  and-gates-same =
      ap₂ (λ (gs : List Gate) (D : Twin). gs ++ row_gates rows
      (A.wire ∷ D.wire ∷ mask_wire n A.code ∷ mask_wire n D.code ∷ (n + 4) ∷ []) (past c A B))
      (change-same n c A B P.code Q.code) (changed-same n c A B P.code Q.code)

module _ (n : ℕ) (S : State) (has : ℕ → Bool) (r : n + 5 ≤ S.next) (h : (w : ℕ) → T (has w) → Placed S.next (twin S w))
  where
    emit-same : (g : Gate) → T (operands_given has g) → emit_by_tables n S g ≡ emit n S g
    emit-same (Xor a b c) t =
        let o = both (has a) (has b) t in
        xor-gates-same n S.next (twin S a) (twin S b) r (h a o.0) (h b o.1)
    emit-same (And a b c) t =
        let o = both (has a) (has b) t in
        and-gates-same n S.next (twin S a) (twin S b) r (h a o.0) (h b o.1)
    emit-same (Inv a c) t = refl
    emit-same (Eqw a c) t = refl
    emit-same (Eq v c) t = refl

    result-same : (g : Gate) → T (operands_given has g) → result_twin_by_tables S g ≡ result_twin S g
    result-same (Xor a b c) t =
        let o = both (has a) (has b) t in
        xor-twin-same n S.next (twin S a) (twin S b) r (h a o.0) (h b o.1)
    result-same (And a b c) t = refl
    result-same (Inv a c) t = refl
    result-same (Eqw a c) t = refl
    result-same (Eq v c) t = refl

    advance-same : (g : Gate) → T (operands_given has g) → advance_by_tables S g ≡ advance S g
    advance-same g t =
        ap (λ (A : Twin). record { next = A.wire + 1; twins = set S.twins (result g) A }) (result-same g t)

-- the source gates in order, and the state after them
all_same : {n W : ℕ} {rs : List ℕ} {S : State} (gs : List Gate) → T (gates_good n W rs gs) → AllPlaced n W rs S
    → (emit_all_by_tables n S gs ≡ emit_all n S gs) × (advance_all_by_tables S gs ≡ advance_all S gs)
all_same [] t A = (refl, refl)
all_same {n} {W} {rs} {S} (g ∷ gs) t A =
    let G : GoodGate n W rs g gs = good_gate t in
    let a = advance-same n S (is_given n rs) A.room A.placed g G.operands in
    let k = all_same {rs = result g ∷ rs} {S = advance S g} gs G.rest (place-gate G A) in (
      ap₂ ◌++◌ (emit-same n S (is_given n rs) A.room A.placed g G.operands)
          (ap (λ (X : State). emit_all_by_tables n X gs) a ∙ k.0),
      ap (λ (X : State). advance_all_by_tables X gs) a ∙ k.1,
    )

out-same : (n c d : ℕ) (t : Twin) (want : ℕ) → Placed d t → T (is_wanted want) → out_gate_by_tables n c t want
    ≡ out_gate n c t want
out-same n c d t want P q =
    on_bool (eqb want 0)
    (λ z. rw z refl)
    (λ z. on_bool (eqb want t.code)
    (λ y. rw (z, y) refl)
    (λ y. ap (λ (f : ℕ). cond (eqb want 0) (Eqw t.wire c) (cond (eqb want t.code) (Eqw t.wire c)
    (Xor t.wire (mask_wire n f) c)))
    (third_told t.code want P.code (wanted-code want q z) (wanted-other t.code want y))))

outs-same : (n c d : ℕ) (ts : List Twin) (ws : List ℕ) → All (Placed d) ts → T (every is_wanted ws)
    → out_gates_by_tables n c ts ws ≡ out_gates n c ts ws
outs-same n c d [] ws P t = refl
outs-same n c d (x ∷ ts) [] P t = refl
outs-same n c d (x ∷ ts) (w ∷ ws) P t =
    let q = both (is_wanted w) (every is_wanted ws) t in
    ap₂ ◌∷◌ (out-same n c d x w (all_head P) q.0) (outs-same n (c + 1) d ts ws (all_tail P) q.1)

-- every answer of Mask stays the same: for all that questions 4 to 9, 11 and 13 admit
pub masked_same : {N : Netlist} {codes wanted : List ℕ} → MaskInputs N codes wanted
    → mask_netlist_by_tables N codes wanted ≡ mask_netlist N codes wanted
unfolding mask_netlist mask_netlist_by_tables
masked_same {N} {codes} {wanted} C =
    let n = input_bits N in
    let k = all_same N.gates C.source.good (start-placed C) in
    let S = finish N codes in
    ap₂ (λ (X : State) (gs : List Gate). assembled N codes wanted X gs
    (out_gates_by_tables n X.next (output_twins N X) wanted)) k.1 k.0
    ∙ ap (assembled N codes wanted S (emit_all n (start N codes) N.gates))
    (outs-same n S.next S.next (out_twins N codes) wanted (outs-placed C) C.wanted_good)

-- ---- as the front page has them

pub third-as-told : ThirdAsTold
third-as-told e f c d n = sym (third_told e f c d n)

pub after-as-told : AfterAsTold
after-as-told e c = sym (after_told e c)

pub same-by-tables : SameByTables
same-by-tables N codes wanted F c w = masked_same (mask-inputs F c w)

pub third-is-sum : ThirdIsSum
third-is-sum e f c d n m0 m1 =
    let sums = every_two-at (λ e f. every_bit λ m0. every_bit λ m1. same (mask_of m0 m1 (third e f))
    (differs (mask_of m0 m1 e) (mask_of m0 m1 f))) tt e f c d n in
    let given = every_bit-at (λ m0. every_bit λ m1. same (mask_of m0 m1 (third e f))
    (differs (mask_of m0 m1 e) (mask_of m0 m1 f))) sums m0 in
    same-eq _ _ (every_bit-at (λ m1. same (mask_of m0 m1 (third e f)) (differs (mask_of m0 m1 e) (mask_of m0 m1 f)))
    given m1)
