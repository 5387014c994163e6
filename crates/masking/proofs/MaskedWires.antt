-- The wires of the masked netlist under all settings: what they carry, and that each is balanced.
use Prim.Native.Nat.{ℕ, ◌+◌, ◌-◌, ◌≤◌, ◌<◌}
use mathlib.Core.Path.{◌≡◌, refl, sym, ap, ◌∙◌}
use mathlib.Core.Bool.{Bool, false, ◌&&◌, ◌||◌}
use mathlib.Core.List.{List, [], ◌++◌}
use native.Mathlib.Omega.{arith}
use lib.Dec.{eqb, ltb}
use borrow.Author.Tests.{eqb-true, eqb-false, ltb-true, ltb-false}
use lib.ListN.{length, get_or}
use Rattle.netlist.specs.declared.Gate.{Gate}
use Rattle.netlist.specs.Netlist.{Netlist, input_bits, output_bits}
use Rattle.netlist.specs.Eval.{differs, bits_at, wire_bits}
use Rattle.masking.specs.Mask.{is_input_code, is_public, twin, emit_all, start, mask_gates, public_gates, out_gates}
use Rattle.masking.specs.Mask.{finish, out_twins, mask_netlist}
use Rattle.masking.specs.Leak.{mask_of, masked, count_of, public_only}
use Rattle.netlist.proofs.Tests.{on_bool, every-at, empty, each, all_head, all_tail, all_append}
use Rattle.masking.proofs.CodeLaws.{wanted-code}
use Rattle.masking.proofs.MaskedBits.{differs_false, or-law, length-masked, masked-at, masked-pair}
use Rattle.netlist.proofs.GoodGates.{given-none, every-wire-given}
use Rattle.netlist.proofs.Models.{bits-satisfy, bits-inputs}
use Rattle.netlist.proofs.Order.{AllWires, every-wire}
use Rattle.masking.proofs.MaskInputs.{MaskInputs}
use Rattle.masking.proofs.Shape.{start-twin, start-placed, out-twin, outs-placed, length-out_twins, masked-ordered}
use Rattle.masking.proofs.Shape.{masked-input_bits, masked-well_formed}
use Rattle.masking.proofs.Carries.{Family, Satisfies, Balanced, Carries, Masks, satisfies-split, balanced}
use Rattle.masking.proofs.Carries.{carries-balanced}
use Rattle.masking.proofs.GateTwins.{Walked, walk-gates}
use Rattle.masking.proofs.PublicTwins.{Inputs, walk-inputs}
use Rattle.masking.proofs.OutputTwins.{Outs, walk-outs}
use Rattle.masking.proofs.Settings.{public_only-at}

-- the settings of a source's input bits that have the public bits of p: all that is owed is owed among these
pub record Setting (N : Netlist) (codes : List ℕ) (p : List Bool) : Type 0 where
  pub bits : List Bool
  pub size : length bits ≡ input_bits N
  pub public : public_only codes bits ≡ p

-- any setting is one of those with its own public bits
abbrev pub own : {N : Netlist} (codes : List ℕ) (x : List Bool) → length x ≡ input_bits N
    → Setting N codes (public_only codes x)
own codes x l = record { bits = x; size = l; public = refl }

-- the bits of the source's wires, and of a masked netlist's wires
abbrev pub source_bits : (N : Netlist) {codes : List ℕ} {p : List Bool} → Setting N codes p → ℕ → Bool
source_bits N x = bits_at (wire_bits N x.bits)

abbrev pub masked_bits : (N : Netlist) (codes : List ℕ) (p : List Bool) → Netlist → Family (Setting N codes p)
masked_bits N codes p M x m0 m1 = bits_at (wire_bits M (masked m0 m1 codes x.bits))

module _ {N : Netlist} {codes wanted : List ℕ} (C : MaskInputs N codes wanted) (p : List Bool) where
  abbrev M : Netlist
  M = (mask_netlist N codes wanted).netlist

  abbrev n : ℕ
  n = input_bits N

  abbrev U : Family (Setting N codes p)
  U = masked_bits N codes p M

  satisfied : Satisfies U M.gates
  satisfied x m0 m1 = bits-satisfy (masked-well_formed C) (masked m0 m1 codes x.bits)

  input-wire : (x : Setting N codes p) (m0 m1 : Bool) (w : ℕ) → w < n + 2 → U x m0 m1 w
      ≡ get_or (masked m0 m1 codes x.bits) w false
  input-wire x m0 m1 w h =
      let i = masked-input_bits C in
      let l : length codes ≡ input_bits N = C.codes_length in
      bits-inputs (masked-well_formed C) (masked m0 m1 codes x.bits) (omega (arith, length-masked m0 m1 codes x.bits)) w
      (omega arith)

  -- the masked netlist's gates: the three of the masks, those of the public bits, of the source gates, those of the
  -- outputs
  abbrev opening : List Gate
  opening = mask_gates n ++ public_gates n (n + 5) 0 codes

  sourcing : Satisfies U (opening ++ emit_all n (start N codes) N.gates)
  unfolding mask_netlist
  sourcing = (satisfies-split U (opening ++ emit_all n (start N codes) N.gates) satisfied).0

  masking : Satisfies U (mask_gates n)
  masking = (satisfies-split U (mask_gates n) (satisfies-split U opening sourcing).0).0

  publishing : Satisfies U (public_gates n (n + 5) 0 codes)
  publishing = (satisfies-split U (mask_gates n) (satisfies-split U opening sourcing).0).1

  emitting : Satisfies U (emit_all n (start N codes) N.gates)
  emitting = (satisfies-split U opening sourcing).1

  outing : Satisfies U (out_gates n (finish N codes).next (out_twins N codes) wanted)
  unfolding mask_netlist
  outing = (satisfies-split U (opening ++ emit_all n (start N codes) N.gates) satisfied).1

  masks : Masks U n
  masks =
      let l : length codes ≡ input_bits N = C.codes_length in
      let a : (x : Setting N codes p) (m0 m1 : Bool) → U x m0 m1 n ≡ m0
      = λ x m0 m1. input-wire x m0 m1 n (omega arith) ∙ masked-pair m0 m1 codes x.bits 0 n (omega arith) in
      let b : (x : Setting N codes p) (m0 m1 : Bool) → U x m0 m1 (n + 1) ≡ m1
      = λ x m0 m1. input-wire x m0 m1 (n + 1) (omega arith) ∙ masked-pair m0 m1 codes x.bits 1 (n + 1) (omega arith) in
      record {
        first = a;
        second = b;
        sum = λ x m0 m1. all_head (masking x m0 m1) ∙ rw (a x m0 m1, b x m0 m1) refl;
        or = λ x m0 m1.
            let m = masking x m0 m1 in
            all_head (all_tail (all_tail m)) ∙ rw (all_head m, all_head (all_tail m), a x m0 m1, b x m0 m1)
            (or-law m0 m1);
      }

  input-carries : (w : ℕ) → w < n → Carries U (record { wire = w; code = get_or codes w 0 }) (λ x. source_bits N x w)
  input-carries w h x m0 m1 =
      let l : length codes ≡ input_bits N = C.codes_length in
      let k : length x.bits ≡ input_bits N = x.size in
      input-wire x m0 m1 w (omega arith) ∙ masked-at m0 m1 codes x.bits (omega arith) w (omega arith)
      ∙ sym (ap (λ b. differs b (mask_of m0 m1 (get_or codes w 0))) (bits-inputs C.source x.bits k w h))

  -- the inputs' twins carry their bits, public or not
  inputs : Inputs U n (n + 5) 0 codes (λ w x. source_bits N x w)
  inputs =
      let l : length codes ≡ input_bits N = C.codes_length in
      walk-inputs masks (n + 5) 0 codes (λ w x. source_bits N x w)
      (λ w h. let z : 0 + w ≡ w = omega arith in rw z (input-carries w (omega arith))) publishing

  walked : Walked masks (source_bits N) [] (start N codes) N.gates
  walked =
      let l : length codes ≡ input_bits N = C.codes_length in
      walk-gates masks (source_bits N) N.wires [] (start N codes) N.gates C.source.good (start-placed C)
      (λ w t x m0 m1. let h = given-none n w t in rw (start-twin N codes w (omega arith))
      (inputs.carries w (omega arith) x m0 m1))
      (λ x. bits-satisfy C.source x.bits)
      emitting

  -- the twin of every source wire carries its bit
  pub carried : (w : ℕ) → w < N.wires → Carries U (twin (finish N codes) w) (λ x. source_bits N x w)
  carried w h = walked.twins w (every-wire-given C.source w h)

  -- and so do the outputs' wires, under the codes that they end with
  pub outs : Outs U n (finish N codes).next (out_twins N codes) wanted
      (λ i x. source_bits N x (N.wires - output_bits N + i))
  outs =
      let f : output_bits N ≤ N.wires = C.source.outputs_fit in
      let l = length-out_twins C in
      walk-outs masks (finish N codes).next (out_twins N codes) wanted
      (λ i x. source_bits N x (N.wires - output_bits N + i))
      (C.wanted_length ∙ sym l) C.wanted_good (outs-placed C)
      (λ i h x m0 m1. rw (out-twin N codes i) (carried (N.wires - output_bits N + i) (omega arith) x m0 m1))
      outing

  mask-wires-even : AllWires (Balanced U) (mask_gates n)
  mask-wires-even =
      let a = masks.first in
      let b = masks.second in
      each (balanced U (n + 2) 2 (λ x m0 m1. differs m0 m1) masks.sum (λ x. refl))
      (each (balanced U (n + 3) 1 (λ x m0 m1. m0 && m1) (λ x m0 m1. all_head (all_tail (masking x m0 m1))
      ∙ rw (a x m0 m1, b x m0 m1) refl) (λ x. refl))
      (each (balanced U (n + 4) 3 (λ x m0 m1. m0 || m1) masks.or (λ x. refl)) empty))

  gates-even : AllWires (Balanced U) M.gates
  unfolding mask_netlist
  gates-even = all_append (all_append (all_append mask-wires-even inputs.even) walked.even) outs.even

  -- an input wire is balanced: a public bit is the same in all of the settings
  input-even : (w : ℕ) → w < n → Balanced U w
  input-even w h =
      let l : length codes ≡ input_bits N = C.codes_length in
      on_bool (is_public (get_or codes w 0))
      (λ q. let z : get_or codes w 0 ≡ 0 = eqb-true (get_or codes w 0) 0 q in
      balanced U w (count_of (λ m0 m1. get_or p w false)) (λ x m0 m1. get_or p w false)
      (λ x m0 m1.
      let k : length x.bits ≡ input_bits N = x.size in
      input-wire x m0 m1 w (omega arith) ∙ masked-at m0 m1 codes x.bits (omega arith) w (omega arith)
      ∙ rw (z, differs_false (get_or x.bits w false)) (sym (rw q at (public_only-at codes x.bits w (omega arith))))
      ∙ ap (λ y. get_or y w false) x.public)
      (λ x. refl))
      (λ q. carries-balanced U (record { wire = w; code = get_or codes w 0 }) (λ x. source_bits N x w)
      (wanted-code (get_or codes w 0) (every-at is_input_code codes C.codes_good w (omega arith)) q)
      (input-carries w h))

  -- every wire is balanced: the inputs, the mask pair, and the gates' wires
  pub even : (w : ℕ) → w < M.wires → Balanced U w
  even w h =
      on_bool (ltb w n)
      (λ e. input-even w (ltb-true w n e))
      (λ e. on_bool (eqb w n)
      (λ q. rw (eqb-true w n q) (balanced U n 2 (λ x m0 m1. m0) masks.first (λ x. refl)))
      (λ q. on_bool (eqb w (n + 1))
      (λ r. rw (eqb-true w (n + 1) r) (balanced U (n + 1) 2 (λ x m0 m1. m1) masks.second (λ x. refl)))
      (λ r. let b = ltb-false w n e in
      let b1 : w ≡ n → ⊥ = eqb-false w n q in
      let b2 : w ≡ n + 1 → ⊥ = eqb-false w (n + 1) r in
      every-wire (Balanced U) (masked-ordered C) gates-even w (omega arith) h)))
