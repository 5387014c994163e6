-- The gates of tables as a netlist.
use Rattle.std.specs.Prelude.{ℕ, []}
use Rattle.netlist.specs.Netlist.{Netlist}
use Rattle.netlist.specs.Table.{Tables, gates_of}
use Rattle.gates.specs.declared.Gates.{Gates}
use Rattle.gates.specs.Gates.{tables_of}

-- the tables' first n gates on W wires; the widths of its values do not matter to its wires' bits
abbrev pub bare : Tables → ℕ → ℕ → Netlist
bare t n W = record { wires = W; inputs = []; outputs = []; gates = gates_of t n }

abbrev pub bare_of : Gates → ℕ → Netlist
bare_of g W = bare (tables_of g) g.count W
