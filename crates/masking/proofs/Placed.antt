-- The masked gates of source gates take the next wires in order, each above its operands, and all twins stay below the
-- next wire.
use Prim.Native.Nat.{ℕ, ◌+◌, ◌≤◌, ◌<◌}
use mathlib.Core.Path.{◌≡◌, refl, ◌∙◌}
use mathlib.Core.Logic.{◌≢◌}
use mathlib.Core.Bool.{Bool, true, false, cond, not}
use mathlib.Core.List.{List, [], ◌∷◌}
use native.Mathlib.Omega.{arith}
use lib.Dec.{T, eqb, lt→ltb}
use lib.ListN.{length, length-set}
use lib.Seq.{get_or-set_same, get_or-set_other}
use Rattle.netlist.specs.declared.Gate.{Gate}
use Rattle.netlist.specs.declared.Gate.TheVariants.{Xor, And, Inv, Eqw, Eq}
use Rattle.netlist.specs.declared.Twin.{Twin}
use Rattle.netlist.specs.Netlist.{result}
use Rattle.netlist.specs.Read.{operands_given, is_given, gates_good}
use Rattle.masking.specs.Mask.{is_code, after, mask_wire, rows, changes, change_gates, changed, past, xor_gates}
use Rattle.masking.specs.Mask.{xor_twin, and_gates, and_twin, State, twin, no_twin, emit, result_twin, advance}
use Rattle.masking.specs.Mask.{emit_all, advance_all}
use Rattle.netlist.proofs.Tests.{both, on_bool, All, empty, each}
use Rattle.masking.proofs.CodeLaws.{every_pair-at, code-most, third-code, after-code}
use Rattle.netlist.proofs.GoodGates.{GoodGate, good_gate, results, given-cases}
use Rattle.netlist.proofs.Order.{Ordered, end, step, ordered-append, two-below}
use Rattle.masking.proofs.AndRows.{rows-ordered}

-- a twin stands below the next wire c, under a code
pub record Placed (c : ℕ) (A : Twin) : Type 0 where
  pub below : A.wire < c
  pub code : T (is_code A.code)

pub placed-later : {c d : ℕ} {A : Twin} → c ≤ d → Placed c A → Placed d A
placed-later {c} {d} {A} h P = let b : A.wire < c = P.below in record { below = omega arith; code = P.code }

pub mask_wire-below : (n c e : ℕ) → n + 5 ≤ c → T (is_code e) → mask_wire n e < c
mask_wire-below n c e r p = omega (arith, code-most e p)

-- the code of the second operand after the mask change: another code than the first operand's
abbrev changed_code : ℕ → ℕ → ℕ
changed_code e f = (changed 0 (record { wire = 0; code = e }) (record { wire = 0; code = f })).code

cond-code : (t : Bool) (A B C D : Twin) → A.code ≡ C.code → B.code ≡ D.code → (cond t A B).code ≡ (cond t C D).code
cond-code true A B C D p q = p
cond-code false A B C D p q = q

changed-code : (c : ℕ) (A B : Twin) → (changed c A B).code ≡ changed_code A.code B.code
changed-code c A B = cond-code (changes A B) _ _ _ _ refl refl

changed-good : (e f : ℕ) → T (is_code e) → T (is_code f) → T (is_code (changed_code e f))
changed-good = every_pair-at (λ e f. is_code (changed_code e f)) tt

changed-other : (e f : ℕ) → T (is_code e) → T (is_code f) → T (not (eqb e (changed_code e f)))
changed-other = every_pair-at (λ e f. not (eqb e (changed_code e f))) tt

-- two operands after the mask change, whose gate stands at wire c if there is one
pub record Prepared (n c : ℕ) (A B : Twin) : Type 0 where
  pub grows : c ≤ past c A B
  pub ordered : Ordered c (change_gates n c A B) (past c A B)
  pub second : Placed (past c A B) (changed c A B)
  pub other : T (not (eqb A.code (changed c A B).code))

pub prepare : (n c : ℕ) (A B : Twin) → n + 5 ≤ c → Placed c A → Placed c B → Prepared n c A B
prepare n c A B r P Q =
    let code : T (is_code (changed c A B).code) = rw (changed-code c A B) (changed-good A.code B.code P.code Q.code) in
    let other : T (not (eqb A.code (changed c A B).code)) = rw (changed-code c A B)
    (changed-other A.code B.code P.code Q.code) in
    on_bool (changes A B)
    (λ e. let m = mask_wire-below n c (after B.code) r (after-code B.code Q.code) in
    let below : (changed c A B).wire < past c A B = rw e (omega arith) in
    record {
      grows = rw e (omega arith);
      ordered = rw e (step refl (two-below B.wire (mask_wire n (after B.code)) c Q.below m) end);
      second = record { below = below; code = code };
      other = other;
    })
    (λ e. record { grows = rw e (omega arith); ordered = rw e end; second = rw e Q; other = other })

-- places 0 to 4 of a masked AND, with operands under different codes
abbrev pub and_places : ℕ → Twin → Twin → List ℕ
and_places n A D = A.wire ∷ D.wire ∷ mask_wire n A.code ∷ mask_wire n D.code ∷ (n + 4) ∷ []

places-below : (n d : ℕ) (A D : Twin) → n + 5 ≤ d → Placed d A → Placed d D → All (λ p. p < d) (and_places n A D)
places-below n d A D r P Q =
    let o : n + 4 < d = omega arith in
    each P.below
    (each Q.below (each (mask_wire-below n d A.code r P.code)
    (each (mask_wire-below n d D.code r Q.code) (each o empty))))

-- gates in order from wire c on, the last of which gives a twin
record Emitted (c : ℕ) (gs : List Gate) (A : Twin) : Type 0 where
  ordered : Ordered c gs (A.wire + 1)
  grows : c ≤ A.wire
  code : T (is_code A.code)

module _ (n c : ℕ) (A B : Twin) (r : n + 5 ≤ c) (P : Placed c A) (Q : Placed c B) where
  xor-emitted : Emitted c (xor_gates n c A B) (xor_twin c A B)
  xor-emitted =
      let D = changed c A B in
      let E = prepare n c A B r P Q in
      record {
        ordered = ordered-append E.ordered
            (step refl (two-below A.wire D.wire (past c A B) (placed-later E.grows P).below E.second.below) end);
        grows = E.grows;
        code = third-code A.code D.code P.code E.second.code E.other;
      }

  and-emitted : Emitted c (and_gates n c A B) (and_twin c A B)
  and-emitted =
      let D = changed c A B in
      let d = past c A B in
      let E = prepare n c A B r P Q in
      let up : c ≤ d = E.grows in
      let len : d + 7 ≡ d + 6 + 1 = omega arith in
      record {
        ordered = ordered-append E.ordered
            (rw len at (rows-ordered rows (and_places n A D) d tt
            (places-below n d A D (omega arith) (placed-later up P) E.second)));
        grows = omega arith;
        code = P.code;
      }

-- the masked gates of a source gate, where the twins of its operands are placed
emitted : (n : ℕ) (S : State) (has : ℕ → Bool) (g : Gate) → n + 5 ≤ S.next → T (operands_given has g)
    → ((w : ℕ) → T (has w) → Placed S.next (twin S w))
    → Emitted S.next (emit n S g) (result_twin S g)
emitted n S has (Xor a b c) r t h = let o = both (has a) (has b) t in xor-emitted n S.next (twin S a) (twin S b) r
    (h a o.0) (h b o.1)
emitted n S has (And a b c) r t h = let o = both (has a) (has b) t in and-emitted n S.next (twin S a) (twin S b) r
    (h a o.0) (h b o.1)
emitted n S has (Inv a c) r t h = record {
  ordered = step refl (lt→ltb _ _ (h a t).below) end;
  grows = omega arith;
  code
      = (h a t).code;
}
emitted n S has (Eqw a c) r t h = record {
  ordered = step refl (lt→ltb _ _ (h a t).below) end;
  grows = omega arith;
  code
      = (h a t).code;
}
emitted n S has (Eq v c) r t h =
    let l : n < S.next = omega arith in
    record {
      ordered = on_bool (eqb v 0) (λ e. rw e (step refl (lt→ltb _ _ l) end)) (λ e. rw e (step refl (lt→ltb _ _ l) end));
      grows = omega arith;
      code = tt;
    }

-- the twins after a source gate
pub twin-new : (S : State) (g : Gate) → result g < length S.twins → twin (advance S g) (result g) ≡ result_twin S g
twin-new S g h = get_or-set_same S.twins (result g) (result_twin S g) no_twin h

pub twin-old : (S : State) (g : Gate) (w : ℕ) → w ≢ result g → twin (advance S g) w ≡ twin S w
twin-old S g w h = get_or-set_other S.twins (result g) w (result_twin S g) no_twin h

-- a state in which the twins of all given wires are placed
pub record AllPlaced (n W : ℕ) (rs : List ℕ) (S : State) : Type 0 where
  pub size : length S.twins ≡ W
  pub room : n + 5 ≤ S.next
  pub placed : (w : ℕ) → T (is_given n rs w) → Placed S.next (twin S w)

pub place-gate : {n W : ℕ} {rs : List ℕ} {S : State} {g : Gate} {gs : List Gate} → GoodGate n W rs g gs
    → AllPlaced n W rs S
    → AllPlaced n W (result g ∷ rs) (advance S g)
place-gate {n} {W} {rs} {S} {g} G A =
    let E = emitted n S (is_given n rs) g A.room G.operands A.placed in
    let r : n + 5 ≤ S.next = A.room in
    let l : length S.twins ≡ W = A.size in
    let h : result g < W = G.high in
    let up : S.next ≤ (result_twin S g).wire = E.grows in
    let new : Placed (advance S g).next (result_twin S g) = record { below = omega arith; code = E.code } in
    record {
      size = length-set S.twins (result g) (result_twin S g) ∙ A.size;
      room = omega arith;
      placed = λ w t. given-cases n rs (result g) w t
          (λ e. rw (e, twin-new S g (omega arith)) new)
          (λ ne p. rw (twin-old S g w ne) (placed-later (omega arith) (A.placed w p)));
    }

pub place-all : {n W : ℕ} {rs : List ℕ} {S : State} (gs : List Gate) → T (gates_good n W rs gs) → AllPlaced n W rs S
    → AllPlaced n W (results rs gs) (advance_all S gs)
place-all [] t A = A
place-all {n} {W} {rs} {S} (g ∷ gs) t A =
    let G : GoodGate n W rs g gs = good_gate t in place-all {rs = result g ∷ rs} {S = advance S g} gs G.rest
    (place-gate G A)

pub emit-ordered : {n W : ℕ} {rs : List ℕ} {S : State} (gs : List Gate) → T (gates_good n W rs gs) → AllPlaced n W rs S
    → Ordered S.next (emit_all n S gs) (advance_all S gs).next
emit-ordered [] t A = end
emit-ordered {n} {W} {rs} {S} (g ∷ gs) t A =
    let G : GoodGate n W rs g gs = good_gate t in
    ordered-append (emitted n S (is_given n rs) g A.room G.operands A.placed).ordered
    (emit-ordered {rs = result g ∷ rs} {S = advance S g} gs G.rest (place-gate G A))
