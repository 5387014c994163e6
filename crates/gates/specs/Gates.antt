-- Gates in two tables that are lent to read.
use Rattle.std.specs.Prelude.{ℕ, List, get_or}
use Rattle.netlist.specs.declared.Gate.{Gate}
use Rattle.netlist.specs.Netlist.{Netlist}
use Rattle.netlist.specs.Table.{Tables, tables, gates_of, Wired, Holds}
use Rattle.gates.specs.declared.Gates.{Gates}
use Rattle.gates.specs.declared.Parts.{Parts}
use Rattle.gates.specs.Parts.{parts_of}

abbrev pub tables_of : Gates → Tables
tables_of g = tables g.operands.now g.results.now

-- the parts of entry i
abbrev pub parts_at : Tables → ℕ → Parts
parts_at t i = parts_of (get_or t.operands i 0) (get_or t.results i 0)

-- the gates themselves
abbrev pub gates_in : Gates → List Gate
gates_in g = gates_of (tables_of g) g.count

-- each has its entries, which name wires below W
abbrev pub WiredGates : Gates → ℕ → Type 0
WiredGates g W = Wired (tables_of g) W g.count

-- they are those of a netlist, with W wires, n input and o output bits
abbrev pub HoldsGates : Gates → ℕ → ℕ → ℕ → Netlist → Type 0
HoldsGates g W n o N = Holds (tables_of g) g.count W n o N
