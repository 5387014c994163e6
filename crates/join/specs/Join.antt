-- The joined netlist (docs/RULES.md, Joining).
use Rattle.std.specs.Prelude.{ℕ, ◌+◌, ◌-◌, cond, ◌++◌, map, ltb}
use Rattle.netlist.specs.declared.Gate.{Gate}
use Rattle.netlist.specs.declared.Gate.TheVariants.{Xor, And, Inv, Eqw, Eq}
use Rattle.netlist.specs.Netlist.{Netlist, input_bits, output_bits}

-- where wire w of the second goes, n of whose wires are inputs, after a first of W wires, o output and i input bits: an
-- input bit becomes the first's output wire, the mask pair the first's mask pair, and a further wire the first's W + w
-- - n
abbrev pub moved_wire : ℕ → ℕ → ℕ → ℕ → ℕ → ℕ
moved_wire W o i n w =
    cond (ltb w (n - 2)) (W - o + w)
    (cond (ltb w n) (i - 2 + (w - (n - 2)))
    (W + w - n))

abbrev pub joined_wire : Netlist → Netlist → ℕ → ℕ
joined_wire A B = moved_wire A.wires (output_bits A) (input_bits A) (input_bits B)

-- a gate on other wires; the constant of EQ is no wire
abbrev pub renumbered : (ℕ → ℕ) → Gate → Gate
renumbered f (Xor a b c) = Xor (f a) (f b) (f c)
renumbered f (And a b c) = And (f a) (f b) (f c)
renumbered f (Inv a c) = Inv (f a) (f c)
renumbered f (Eqw a c) = Eqw (f a) (f c)
renumbered f (Eq v c) = Eq v (f c)

-- the first's gates, then the second's: in with the first's input values, out with the second's output values
abbrev pub join : Netlist → Netlist → Netlist
join A B = record {
  wires = A.wires + B.wires - input_bits B;
  inputs = A.inputs;
  outputs = B.outputs;
  gates = A.gates ++ map (renumbered (joined_wire A B)) B.gates;
}
