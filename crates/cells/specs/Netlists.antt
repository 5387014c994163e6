-- Cells over nets, and the wires of nets.
use Rattle.std.specs.Prelude.{ℕ, Bool, List, map, slice_index_or}
use Rattle.cells.specs.declared.build.Cell.{Cell}
use Rattle.cells.specs.Computes.{Computes}

-- the wire of a net, or the number that is no wire's
abbrev pub wire_at : List ℕ → ℕ → ℕ
wire_at wires net = slice_index_or wires net 4294967295

-- the wires of a cell's nets carry what its table says
abbrev pub CellHolds : (ℕ → Bool) → List ℕ → Cell → Type 0
CellHolds u wires c = Computes u (map (wire_at wires) c.inputs.items) c.table (wire_at wires c.output)
