-- The lines so far are AND lines, and have at most three gates each.
use Prim.Native.Nat.{ℕ, ◌+◌, ◌*◌, ◌≤◌}
use mathlib.Core.Path.{◌≡◌}
use lib.ListN.{length}
use Rattle.from_aiger.specs.LineAnswers.{lines_left, Behind}
use Rattle.netlist.specs.Table.{tables}
use Rattle.from_aiger.proofs.AndLoop.{Building}
use Rattle.from_aiger.proofs.ands.ands.Given as goal

abbrev pub invariant-loop : goal.invariant-loop
invariant-loop l = record {
  built : (most : ℕ) → length l.fn.table ≡ most + 1 → Building (lines_left l.fn.lines) most l.inputs l.fn.table
      (tables l.fn.operands l.fn.results) l.table
      (tables l.operands l.results) (lines_left l.left) l.count l.counter;
  few : l.count ≤ 3 * l.counter;
  following : Behind l.fn.lines l.left;
}
