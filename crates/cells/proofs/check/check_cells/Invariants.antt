-- The cells so far hold.
use Rattle.std.proofs.Common.{ℕ, Bool, take}
use Rattle.std.specs.List.{All}
use Rattle.cells.specs.Computes.{Holds}
use Rattle.cells.specs.Netlists.{CellHolds}
use Rattle.cells.proofs.check.check_cells.Given as goal

abbrev pub invariant-loop-number : goal.invariant-loop-number
invariant-loop-number l =
    (u : ℕ → Bool) → Holds u l.built.gates.items → All (CellHolds u l.built.wire_of.items) (take l.number l.cells)
