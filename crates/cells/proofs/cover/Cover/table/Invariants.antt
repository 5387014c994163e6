-- The table so far, or one of the cubes left.
use Rattle.std.proofs.Common.{◌≡◌, ℕ, ◌<◌, ◌||◌, map, drop}
use Rattle.cells.specs.Tables.{table_bit}
use Rattle.cells.specs.Covers.{some_admits}
use Rattle.cells.proofs.cover.Cover.table.Given as goal

abbrev pub invariant-loop-cube : goal.invariant-loop-cube
invariant-loop-cube l =
    (j : ℕ) → j < 64 → (table_bit l.table j || some_admits (drop l.cube-index l.self.cubes.items) (map (λ t. table_bit t j) l.inputs))
    ≡ some_admits l.self.cubes.items (map (λ t. table_bit t j) l.inputs)
