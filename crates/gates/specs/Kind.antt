-- What a gate does.
use Rattle.std.specs.Prelude.{ℕ, cond, eqb}
use Rattle.netlist.specs.declared.Gate.{Gate}
use Rattle.netlist.specs.declared.Gate.TheVariants as gate
use Rattle.gates.specs.declared.Kind.{Kind}
use Rattle.gates.specs.declared.Kind.TheVariants.{Xor, And, Inv, Eqw, Eq}

-- its number in the tables; a constant that is not 0 is taken for 1
abbrev pub number : Kind → ℕ
number Xor = 1
number And = 2
number Inv = 3
number Eqw = 4
number (Eq v) = cond (eqb v 0) 5 6

-- the gate of a kind with these wires
abbrev pub gate_for : Kind → ℕ → ℕ → ℕ → Gate
gate_for Xor a b c = gate.Xor a b c
gate_for And a b c = gate.And a b c
gate_for Inv a b c = gate.Inv a c
gate_for Eqw a b c = gate.Eqw a c
gate_for (Eq v) a b c = gate.Eq v c

-- the second operand of a kind; for a gate of one operand, that one again
abbrev pub second_for : Kind → ℕ → ℕ → ℕ
second_for Xor a b = b
second_for And a b = b
second_for Inv a b = a
second_for Eqw a b = a
second_for (Eq v) a b = a
