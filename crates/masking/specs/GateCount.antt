-- The gate count of a masked netlist, in the words of docs/RULES.md, Masking a source: 3, plus one for each source
-- gate, plus six for each AND, plus one for each mask change of an operand, plus one for each output bit; and one for
-- each public bit.
use Rattle.std.specs.Prelude.{ℕ, ◌+◌, ◌*◌, List, [], ◌∷◌, length}
use Rattle.netlist.specs.declared.Gate.{Gate}
use Rattle.netlist.specs.declared.Gate.TheVariants.{Xor, And, Inv, Eqw, Eq}
use Rattle.netlist.specs.Netlist.{Netlist, output_bits}
use Rattle.masking.specs.Mask.{is_public, start}
use Rattle.netlist.specs.Eval.{bit}
use Rattle.masking.specs.Changes.{changed_operands}

-- 1 for an AND
abbrev pub one_and : Gate → ℕ
one_and (Xor a b c) = 0
one_and (And a b c) = 1
one_and (Inv a c) = 0
one_and (Eqw a c) = 0
one_and (Eq v c) = 0

-- how many of the gates are ANDs
abbrev pub and_gates : List Gate → ℕ
and_gates [] = 0
and_gates (g ∷ gs) = one_and g + and_gates gs

-- how many of the input bits are public
abbrev pub public_bits : List ℕ → ℕ
public_bits [] = 0
public_bits (e ∷ es) = bit (is_public e) + public_bits es

unfoldable pub gate_count : Netlist → List ℕ → ℕ
gate_count N codes = 3 + public_bits codes + length N.gates + 6 * and_gates N.gates + changed_operands (start N codes)
    N.gates + output_bits N
