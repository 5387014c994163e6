-- The twins of the masking steps are twins in every masked netlist of their source.
use Prim.Native.Nat.{ℕ, ◌≤◌, ◌<◌}
use mathlib.Core.Path.{◌≡◌, refl, ◌∙◌}
use mathlib.Core.List.{List, [], ◌∷◌}
use native.Mathlib.Omega.{arith}
use lib.ListN.{length, length-append, length-replicate, length-set}
use Rattle.netlist.specs.declared.Gate.{Gate}
use Rattle.netlist.specs.Netlist.{Netlist, input_bits, result}
use Rattle.masking.specs.Mask.{State, twin, result_twin, advance, advance_all, finish, start, mask_netlist}
use Rattle.masking.proofs.PublicGates.{length-input_twins}
use Rattle.masking.proofs.MaskInputs.{MaskInputs}
use Rattle.masking.proofs.Shape.{wire-placed}
use Rattle.masking.proofs.Masking.{twins-carry}
use Rattle.masking.specs.Twins.{Twins}

length-advance_all : (S : State) (gs : List Gate) → length (advance_all S gs).twins ≡ length S.twins
length-advance_all S [] = refl
length-advance_all S (g ∷ gs) = length-advance_all (advance S g) gs ∙ length-set S.twins (result g) (result_twin S g)

-- there is one twin for each source wire
pub length-finish : (N : Netlist) (codes : List ℕ) → length codes ≡ input_bits N → input_bits N ≤ N.wires
    → length (finish N codes).twins ≡ N.wires
length-finish N codes l f =
    let s : length (start N codes).twins ≡ N.wires = simp (length-append, length-input_twins, length-replicate)
    (omega arith) in
    length-advance_all (start N codes) N.gates ∙ s

below : (N : Netlist) (codes wanted : List ℕ) (w : ℕ) → w < (finish N codes).next
    → w < (mask_netlist N codes wanted).netlist.wires
unfolding mask_netlist
below N codes wanted w h = omega arith

module _ {N : Netlist} {codes wanted : List ℕ} (C : MaskInputs N codes wanted) where
  pub twins-carried : Twins N codes (mask_netlist N codes wanted).netlist (finish N codes).twins
  twins-carried = record {
    many = length-finish N codes C.codes_length C.source.inputs_fit;
    each = λ w h. record {
      wire = below N codes wanted (twin (finish N codes) w).wire (wire-placed C w h).below;
      code = (wire-placed C w h).code;
      carries = λ m0 m1 x l. twins-carry C x (l ∙ C.codes_length) m0 m1 w h;
    };
  }
