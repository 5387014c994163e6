-- Which netlists the older dialect can say, and how it writes them (docs/RULES.md, Older dialect).
use Rattle.std.specs.Prelude.{ℕ, Bool, true, false, ◌&&◌, List, [], ◌∷◌, map, leb, length, get_or}
use Rattle.netlist.specs.declared.Gate.{Gate}
use Rattle.netlist.specs.declared.Gate.TheVariants.{Xor, And, Inv, Eqw, Eq}
use Rattle.netlist.specs.Lists.{every}
use Rattle.netlist.specs.Netlist.{Netlist}
use Rattle.netlist.specs.Write.{text, gate_words, decimals}

-- its gates are XOR, AND and INV
abbrev pub is_old_gate : Gate → Bool
is_old_gate (Xor a b c) = true
is_old_gate (And a b c) = true
is_old_gate (Inv a c) = true
is_old_gate (Eqw a c) = false
is_old_gate (Eq v c) = false

-- question 15: no EQ or EQW, at most two input values, and at most one output value
abbrev pub has_old_form : Netlist → Bool
has_old_form N = every is_old_gate N.gates && leb (length N.inputs) 2 && leb (length N.outputs) 1

-- line two of such a netlist: party two is 0 where there is one input value
abbrev pub party_bits : List ℕ → List ℕ → List ℕ
party_bits ins outs = get_or ins 0 0 ∷ get_or ins 1 0 ∷ get_or outs 0 0 ∷ []

-- the old header's two lines, one blank line, and the gates in order
abbrev pub old_written_lines : Netlist → List (List (List ℕ))
old_written_lines N =
    decimals (length N.gates ∷ N.wires ∷ [])
    ∷ decimals (party_bits N.inputs N.outputs)
    ∷ []
    ∷ map gate_words N.gates

unfoldable pub write_old : Netlist → List ℕ
write_old N = text (old_written_lines N)
