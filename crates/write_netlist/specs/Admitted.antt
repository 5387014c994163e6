-- Question 5 of a netlist of one input value and one output value.
use Rattle.std.specs.Prelude.{ℕ, Result, Ok, Err, ◌+◌, ◌≡◌, Bool, true, false, ◌&&◌, leb}
use Rattle.netlist.specs.declared.Limits.{Limits}
use Rattle.netlist.specs.declared.Refusal.{Refusal}
use Rattle.netlist.specs.Refusal.{number_of}
use Rattle.write_netlist.specs.declared.made.NetlistNumbers.{NetlistNumbers}

-- question 5 of a netlist of so many wires, one input value and one output value
abbrev pub admits_one : Limits → ℕ → Bool
admits_one L wires = leb wires L.wires && leb 1 L.inputs && leb 1 L.outputs

-- the numbers of such a netlist that question 5 admits, of i input bits, g gates and o output bits
abbrev pub NumbersAre : Limits → ℕ → ℕ → ℕ → Result NetlistNumbers Refusal → Type 0
NumbersAre L i g o (Ok m) = (admits_one L (i + g) ≡ true)
    × (m ≡ record { gates = g; wires = i + g; inputs = i; outputs = o })
NumbersAre L i g o (Err q) = (admits_one L (i + g) ≡ false) × (number_of q ≡ 5)
