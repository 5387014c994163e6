-- The gates of the masked netlist counted.
use Prim.Native.Nat.{ℕ, ◌+◌, ◌*◌}
use mathlib.Core.Path.{◌≡◌, refl, ap, ap₂, ◌∙◌}
use mathlib.Core.List.{List, [], ◌∷◌}
use lib.ListN.{length}
use Rattle.netlist.specs.declared.Gate.{Gate}
use Rattle.netlist.specs.declared.Gate.TheVariants.{Xor, And, Inv, Eqw, Eq}
use Rattle.netlist.specs.Netlist.{Netlist, output_bits}
use Rattle.masking.specs.Mask.{is_public, State, advance, start, mask_netlist}
use Rattle.netlist.specs.Eval.{bit}
use Rattle.masking.proofs.MaskInputs.{MaskInputs}
use Rattle.masking.proofs.GateCount.{and_of, ands, change_of, operand_changes, publics, gate-count}
use Rattle.masking.specs.Changes.{one_change, changed_operands}
use Rattle.masking.specs.GateCount.{one_and, and_gates, public_bits, gate_count}

and_one : (g : Gate) → and_of g ≡ one_and g
and_one (Xor a b c) = refl
and_one (And a b c) = refl
and_one (Inv a c) = refl
and_one (Eqw a c) = refl
and_one (Eq v c) = refl

and-gates : (gs : List Gate) → ands gs ≡ and_gates gs
and-gates [] = refl
and-gates (g ∷ gs) = ap₂ ◌+◌ (and_one g) (and-gates gs)

change-one : (S : State) (g : Gate) → change_of S g ≡ one_change S g
change-one S (Xor a b c) = refl
change-one S (And a b c) = refl
change-one S (Inv a c) = refl
change-one S (Eqw a c) = refl
change-one S (Eq v c) = refl

changed-operands : (S : State) (gs : List Gate) → operand_changes S gs ≡ changed_operands S gs
changed-operands S [] = refl
changed-operands S (g ∷ gs) = ap₂ ◌+◌ (change-one S g) (changed-operands (advance S g) gs)

public-bits : (es : List ℕ) → publics es ≡ public_bits es
public-bits [] = refl
public-bits (e ∷ es) = ap (λ (n : ℕ). bit (is_public e) + n) (public-bits es)

pub counted : {N : Netlist} {codes wanted : List ℕ} → MaskInputs N codes wanted
    → length (mask_netlist N codes wanted).netlist.gates ≡ gate_count N codes
unfolding gate_count
counted {N} {codes} C =
    gate-count C
    ∙ ap (λ (n : ℕ). 3 + n + length N.gates + 6 * ands N.gates + operand_changes (start N codes) N.gates + output_bits
    N) (public-bits codes)
    ∙ ap (λ (n : ℕ). 3 + public_bits codes + length N.gates + 6 * n + operand_changes (start N codes) N.gates +
    output_bits N) (and-gates N.gates)
    ∙ ap (λ (n : ℕ). 3 + public_bits codes + length N.gates + 6 * and_gates N.gates + n + output_bits N)
    (changed-operands (start N codes) N.gates)
