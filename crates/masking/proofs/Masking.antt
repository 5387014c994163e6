-- What Mask's result is worth: the twin of each source wire, the outputs with their masks taken off (docs/RULES.md,
-- Masking a source), and the counts of all wires (docs/RULES.md, Leaks). Every law takes what Mask is handed,
-- MaskInputs.
use Prim.Native.Nat.{ℕ, ◌+◌, ◌-◌, ◌<◌}
use mathlib.Core.Path.{◌≡◌, sym, ap, ◌∙◌}
use mathlib.Core.Logic.{◌≢◌}
use mathlib.Core.Bool.{Bool, false}
use mathlib.Core.List.{List}
use mathlib.Core.Option.{none}
use native.Mathlib.Omega.{arith}
use lib.Dec.{T}
use lib.ListN.{length, get_or}
use Rattle.netlist.specs.Lists.{every, sum}
use Rattle.netlist.specs.Netlist.{Netlist, input_bits, output_bits}
use Rattle.netlist.specs.Eval.{differs, bits_at, wire_bits, outputs_of}
use Rattle.masking.specs.Mask.{is_code, twin, finish, out_twins, mask_netlist}
use Rattle.masking.specs.Leak.{mask_of, masked, count, public_only, Clean, leak}
use Rattle.masking.specs.Unmask.{Unmasks}
use Rattle.masking.proofs.MaskedBits.{length-masked, unmasked-are}
use Rattle.netlist.proofs.Models.{length-outputs_of, output-bit}
use Rattle.masking.proofs.OutputGates.{length-out_codes, out_codes-good, out_codes-wanted}
use Rattle.masking.proofs.MaskInputs.{MaskInputs}
use Rattle.masking.proofs.Shape.{wire-placed, outs-placed, length-out_twins, masked-input_bits, masked-outputs}
use Rattle.masking.proofs.Shape.{masked-well_formed}
use Rattle.masking.proofs.MaskedWires.{Setting, own, masked_bits, carried, outs, even}
use Rattle.masking.proofs.LeakSearch.{clean-none}

module _ {N : Netlist} {codes wanted : List ℕ} (C : MaskInputs N codes wanted) where
  -- the twin of each source wire is its bit XOR the mask of the twin's code, for all inputs and masks
  pub twins-carry : (x : List Bool) → length x ≡ input_bits N → (m0 m1 : Bool) (w : ℕ) → w < N.wires
      → bits_at (wire_bits (mask_netlist N codes wanted).netlist (masked m0 m1 codes x)) (twin (finish N codes) w).wire
      ≡ differs (bits_at (wire_bits N x) w) (mask_of m0 m1 (twin (finish N codes) w).code)
  twins-carry x l m0 m1 w h = carried C (public_only codes x) w h (own codes x l) m0 m1

  -- and that code is 1, 2 or 3
  pub twin-codes : (w : ℕ) → w < N.wires → T (is_code (twin (finish N codes) w).code)
  twin-codes w h = (wire-placed C w h).code

  -- a code for each output bit, 1 to 3, and the wanted one where one is wanted
  pub output-codes-length : length (mask_netlist N codes wanted).codes ≡ output_bits N
  unfolding mask_netlist
  output-codes-length = length-out_codes (out_twins N codes) wanted (C.wanted_length ∙ sym (length-out_twins C))
      ∙ length-out_twins C

  pub output-codes-good : T (every is_code (mask_netlist N codes wanted).codes)
  unfolding mask_netlist
  output-codes-good = out_codes-good (out_twins N codes) wanted (outs-placed C) C.wanted_good

  pub output-codes-wanted : (i : ℕ) → i < output_bits N → get_or wanted i 0 ≢ 0
      → get_or (mask_netlist N codes wanted).codes i 0 ≡ get_or wanted i 0
  unfolding mask_netlist
  output-codes-wanted i h ne =
      let k = length-out_twins C in
      out_codes-wanted (out_twins N codes) wanted (C.wanted_length ∙ sym k) i (omega arith) ne

  -- docs/RULES.md, Masking a source: each output bit is the source's XOR the mask of its code
  pub outputs-carry : (x : List Bool) → length x ≡ input_bits N → (m0 m1 : Bool) (i : ℕ) → i < output_bits N
      → get_or (outputs_of (mask_netlist N codes wanted).netlist (masked m0 m1 codes x)) i false
      ≡ differs (get_or (outputs_of N x) i false) (mask_of m0 m1 (get_or (mask_netlist N codes wanted).codes i 0))
  unfolding mask_netlist
  outputs-carry x l m0 m1 i h =
      let k = length-out_twins C in
      let M = (mask_netlist N codes wanted).netlist in
      let z : M.wires - output_bits M + i ≡ (finish N codes).next + i = omega arith in
      output-bit M (masked m0 m1 codes x) i ∙ ap (masked_bits N codes (public_only codes x) M (own codes x l) m0 m1) z
      ∙ (outs C (public_only codes x)).carries i (omega arith) (own codes x l) m0 m1
      ∙ sym (ap (λ b. differs b (mask_of m0 m1 (get_or (mask_netlist N codes wanted).codes i 0))) (output-bit N x i))

  -- so with the masks taken off the outputs are the source's
  pub outputs-unmask : Unmasks N codes (mask_netlist N codes wanted).netlist (mask_netlist N codes wanted).codes
  outputs-unmask m0 m1 x l =
      let M = (mask_netlist N codes wanted).netlist in
      let c : length codes ≡ input_bits N = C.codes_length in
      let k = output-codes-length in
      let i = masked-input_bits C in
      let o = masked-outputs C in
      let p = length-outputs_of (masked-well_formed C) (masked m0 m1 codes x)
      (omega (arith, length-masked m0 m1 codes x)) in
      let q : length (outputs_of N x) ≡ output_bits N = length-outputs_of C.source x (omega arith) in
      let p' : length (outputs_of M (masked m0 m1 codes x)) ≡ output_bits N = p ∙ ap sum o in
      unmasked-are m0 m1 (mask_netlist N codes wanted).codes (outputs_of M (masked m0 m1 codes x)) (outputs_of N x)
      (omega arith) (omega arith)
      (λ i h. outputs-carry x (omega arith) m0 m1 i (omega arith))

  -- docs/RULES.md, Leaks: each wire's count is the same for all input settings that agree in their public bits
  pub counts-equal : Clean (mask_netlist N codes wanted).netlist codes
  unfolding count
  counts-equal w h x y a =
      let p = public_only codes y in
      let s : Setting N codes p = record { bits = x; size = a.first ∙ C.codes_length; public = a.public } in
      (even C p w h).1 s ∙ sym ((even C p w h).1 (own codes y (a.second ∙ C.codes_length)))

  pub no-leak : leak (mask_netlist N codes wanted).netlist codes ≡ none
  no-leak = clean-none (mask_netlist N codes wanted).netlist codes counts-equal
