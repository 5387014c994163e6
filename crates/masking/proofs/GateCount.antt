-- How many gates the masked netlist has (docs/RULES.md, Masking a source), and how many
-- wires.
use Prim.Native.Nat.{ℕ, suc, ◌+◌, ◌-◌, ◌*◌, ◌≤◌}
use mathlib.Core.Path.{◌≡◌, refl, sym, ap, ◌∙◌}
use mathlib.Core.Bool.{Bool, true, false}
use mathlib.Core.List.{List, [], ◌∷◌, ◌++◌}
use native.Mathlib.Nat.{le_trans}
use native.Mathlib.Omega.{arith}
use lib.Dec.{T, leb, lit≤, leb→le}
use lib.ListN.{length, length-append}
use Rattle.netlist.specs.declared.Gate.{Gate}
use Rattle.netlist.specs.declared.Gate.TheVariants.{Xor, And, Inv, Eqw, Eq}
use Rattle.netlist.specs.declared.Limits.{Limits}
use Rattle.netlist.specs.declared.Sizes.{Sizes}
use Rattle.netlist.specs.declared.Sizes.TheVariants.{Standard, Whole}
use Rattle.netlist.specs.declared.Twin.{Twin}
use Rattle.netlist.specs.Lists.{every, sum}
use Rattle.netlist.specs.Netlist.{Netlist, input_bits, output_bits, source_limits, masked_limits}
use Rattle.netlist.specs.Read.{Within}
use Rattle.masking.specs.Mask.{is_public, public_gates, Row, row_gates, changes, change_gates, past, State, twin, emit}
use Rattle.masking.specs.Mask.{advance, emit_all, advance_all, start, finish, out_twins, mask_netlist}
use Rattle.netlist.specs.Eval.{bit}
use Rattle.netlist.proofs.Tests.{both, on_bool}
use Rattle.masking.proofs.PublicGates.{past-within}
use Rattle.masking.proofs.OutputGates.{length-out_gates}
use Rattle.masking.proofs.MaskInputs.{MaskInputs}
use Rattle.masking.proofs.Shape.{length-out_twins, masked-inputs, masked-outputs}

-- one for an AND
abbrev pub and_of : Gate → ℕ
and_of (Xor a b c) = 0
and_of (And a b c) = 1
and_of (Inv a c) = 0
and_of (Eqw a c) = 0
and_of (Eq v c) = 0

-- one for a gate of two operands whose twins have equal codes
abbrev pub change_of : State → Gate → ℕ
change_of S (Xor a b c) = bit (changes (twin S a) (twin S b))
change_of S (And a b c) = bit (changes (twin S a) (twin S b))
change_of S (Inv a c) = 0
change_of S (Eqw a c) = 0
change_of S (Eq v c) = 0

-- how many of the gates are ANDs
abbrev pub ands : List Gate → ℕ
ands [] = 0
ands (g ∷ gs) = and_of g + ands gs

-- how many mask changes of an operand the gates get, from the state S on
abbrev pub operand_changes : State → List Gate → ℕ
operand_changes S [] = 0
operand_changes S (g ∷ gs) = change_of S g + operand_changes (advance S g) gs

-- how many of the input bits are public
abbrev pub publics : List ℕ → ℕ
publics [] = 0
publics (e ∷ es) = bit (is_public e) + publics es

length-public_gates : (n c k : ℕ) (es : List ℕ) → length (public_gates n c k es) ≡ publics es
length-public_gates n c k [] = refl
length-public_gates n c k (e ∷ es) =
    on_bool (is_public e)
    (λ z. rw z (omega (arith, length-public_gates n (c + 1) (k + 1) es)))
    (λ z. rw z (omega (arith, length-public_gates n c (k + 1) es)))

length-row_gates : (rs : List Row) (ps : List ℕ) (c : ℕ) → length (row_gates rs ps c) ≡ length rs
length-row_gates [] ps c = refl
length-row_gates (r ∷ rs) ps c = ap suc (length-row_gates rs (ps ++ (c ∷ [])) (c + 1))

length-change_gates : (n c : ℕ) (A B : Twin) → length (change_gates n c A B) ≡ bit (changes A B)
length-change_gates n c A B = on_bool (changes A B) (λ e. rw e refl) (λ e. rw e refl)

past_is : (c : ℕ) (A B : Twin) → past c A B ≡ c + bit (changes A B)
past_is c A B = on_bool (changes A B) (λ e. rw e refl) (λ e. rw e (omega arith))

-- the masked gates of a source gate, and of all
pub length-emit : (n : ℕ) (S : State) (g : Gate) → length (emit n S g) ≡ 1 + 6 * and_of g + change_of S g
length-emit n S (Xor a b c) = rw length-append (omega (arith, length-change_gates n S.next (twin S a) (twin S b)))
length-emit n S (And a b c) = simp (length-append, length-row_gates)
    (omega (arith, length-change_gates n S.next (twin S a) (twin S b)))
length-emit n S (Inv a c) = refl
length-emit n S (Eqw a c) = refl
length-emit n S (Eq v c) = refl

pub length-emit_all : (n : ℕ) (S : State) (gs : List Gate) → length (emit_all n S gs)
    ≡ length gs + 6 * ands gs + operand_changes S gs
length-emit_all n S [] = refl
length-emit_all n S (g ∷ gs) = rw length-append (omega (arith, length-emit n S g, length-emit_all n (advance S g) gs))

-- the next wire moves by the gates
pub next-emit : (n : ℕ) (S : State) (g : Gate) → (advance S g).next ≡ S.next + length (emit n S g)
next-emit n S (Xor a b c) = omega (arith, length-emit n S (Xor a b c), past_is S.next (twin S a) (twin S b))
next-emit n S (And a b c) = omega (arith, length-emit n S (And a b c), past_is S.next (twin S a) (twin S b))
next-emit n S (Inv a c) = refl
next-emit n S (Eqw a c) = refl
next-emit n S (Eq v c) = refl

pub next-emit_all : (n : ℕ) (S : State) (gs : List Gate) → (advance_all S gs).next ≡ S.next + length (emit_all n S gs)
next-emit_all n S [] = omega arith
next-emit_all n S (g ∷ gs) = rw length-append (omega (arith, next-emit n S g, next-emit_all n (advance S g) gs))

-- a source gate becomes at most eight
bit-most : (b : Bool) → bit b ≤ 1
bit-most true = omega arith
bit-most false = omega arith

emit-most : (n : ℕ) (S : State) (g : Gate) → length (emit n S g) ≤ 8
emit-most n S (Xor a b c) = omega (arith, length-emit n S (Xor a b c), bit-most (changes (twin S a) (twin S b)))
emit-most n S (And a b c) = omega (arith, length-emit n S (And a b c), bit-most (changes (twin S a) (twin S b)))
emit-most n S (Inv a c) = omega arith
emit-most n S (Eqw a c) = omega arith
emit-most n S (Eq v c) = omega arith

pub next-most : (S : State) (gs : List Gate) → (advance_all S gs).next ≤ S.next + 8 * length gs
next-most S [] = omega arith
next-most S (g ∷ gs) = omega (arith, next-emit 0 S g, emit-most 0 S g, next-most (advance S g) gs)

sum-some : (xs : List ℕ) → 1 ≤ length xs → T (every (leb 1) xs) → 1 ≤ sum xs
sum-some [] s t = absurd (omega arith)
sum-some (x ∷ xs) s t = let h = leb→le 1 x (both (leb 1 x) (every (leb 1) xs) t).0 in omega arith

-- limits L that have room for what is masked from a source within limits S
pub record RoomToMask (S L : Limits) : Type 0 where
  pub wires : 9 * S.wires ≤ L.wires + 1
  pub inputs : S.inputs + 1 ≤ L.inputs
  pub outputs : S.outputs ≤ L.outputs

pub room-to-mask : (s : Sizes) → RoomToMask (source_limits s) (masked_limits s)
room-to-mask Standard = record { wires = lit≤ tt; inputs = lit≤ tt; outputs = lit≤ tt }
room-to-mask Whole = record { wires = lit≤ tt; inputs = lit≤ tt; outputs = lit≤ tt }

module _ {N : Netlist} {codes wanted : List ℕ} (C : MaskInputs N codes wanted) where
  -- 3, one for each public bit, one for each source gate, six for each AND, one for each mask change of an operand, and
  -- one for each output bit
  pub gate-count : length (mask_netlist N codes wanted).netlist.gates
      ≡ 3 + publics codes + length N.gates + 6 * ands N.gates + operand_changes (start N codes) N.gates + output_bits N
  unfolding mask_netlist
  gate-count =
      let n = input_bits N in
      let l = length-out_twins C in
      let o = length-out_gates n (finish N codes).next (out_twins N codes) wanted (C.wanted_length ∙ sym l) in
      let e = length-emit_all n (start N codes) N.gates in
      let p = length-public_gates n (n + 5) 0 codes in
      simp length-append (omega arith)

  -- its wires: at most 1 less than nine times the source's
  pub masked-wires : (mask_netlist N codes wanted).netlist.wires + 1 ≤ 9 * N.wires
  unfolding mask_netlist
  masked-wires =
      let F = C.source in
      let i : input_bits N ≤ N.wires = F.inputs_fit in
      let o : output_bits N ≤ N.wires = F.outputs_fit in
      let c : length N.gates ≡ N.wires - input_bits N = F.gate_count in
      let b = next-most (start N codes) N.gates in
      let k : length codes ≡ input_bits N = C.codes_length in
      let p = past-within (input_bits N + 5) codes in
      let s = sum-some N.inputs F.some_input F.inputs_positive in
      omega arith

  -- so a source within limits becomes one within limits that have room for it
  pub masked-within : {S L : Limits} → RoomToMask S L → Within S N → Within L (mask_netlist N codes wanted).netlist
  masked-within R H =
      let w = H.wires in
      let r = R.wires in
      let v = H.inputs in
      let i = R.inputs in
      let b = masked-wires in
      let l = masked-inputs C in
      record {
        wires = omega arith;
        inputs = omega arith;
        outputs = rw (masked-outputs C) (le_trans H.outputs R.outputs);
      }
