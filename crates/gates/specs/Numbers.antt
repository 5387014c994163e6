-- A gate with its kind apart from its wires.
use Rattle.std.specs.Prelude.{ℕ, ◌<◌}
use Rattle.netlist.specs.declared.Gate.{Gate}
use Rattle.netlist.specs.declared.Gate.TheVariants.{Xor, And, Inv, Eqw, Eq}
use Rattle.gates.specs.declared.GateNumbers.{GateNumbers}
use Rattle.gates.specs.Kind.{gate_for, second_for}

-- the gate that numbers are
abbrev pub gate_said : GateNumbers → Gate
gate_said g = gate_for g.kind g.left g.right g.result

-- the gate names wires below W, or a constant that is a bit
abbrev pub Names : ℕ → Gate → Type 0
Names W (Xor a b c) = (a < W) × (b < W) × (c < W)
Names W (And a b c) = (a < W) × (b < W) × (c < W)
Names W (Inv a c) = (a < W) × (c < W)
Names W (Eqw a c) = (a < W) × (c < W)
Names W (Eq v c) = (v < 2) × (c < W)

-- the second operand; for a gate of one operand, that one again
abbrev pub second_of : GateNumbers → ℕ
second_of g = second_for g.kind g.left g.right
