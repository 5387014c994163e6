-- The first i lines are inputs.
use Prim.Native.Nat.{ℕ, ◌+◌}
use mathlib.Core.Path.{◌≡◌}
use lib.ListN.{length}
use Rattle.from_aiger.specs.LineAnswers.{lines_left, Behind}
use Rattle.from_aiger.proofs.InputLines.{Entering}
use Rattle.from_aiger.proofs.inputs.inputs.Given as goal

abbrev pub invariant-loop-i : goal.invariant-loop-i
invariant-loop-i l = record {
  entered : (most : ℕ) → length l.fn.table ≡ most + 1 → Entering (lines_left l.fn.lines) most (length l.fn.table)
      l.table (lines_left l.left) l.i;
  following : Behind l.fn.lines l.left;
}
