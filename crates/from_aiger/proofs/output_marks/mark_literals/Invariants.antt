-- The variables of the lines so far have marks.
use Prim.Native.Nat.{ℕ, ◌+◌}
use mathlib.Core.Path.{◌≡◌}
use lib.ListN.{length}
use Rattle.from_aiger.specs.LineAnswers.{lines_left, Behind}
use Rattle.from_aiger.specs.OutAnswers.{MarksAt}
use Rattle.from_aiger.proofs.output_marks.mark_literals.Given as goal

abbrev pub invariant-loop : goal.invariant-loop
invariant-loop l = record {
  marked : (most : ℕ) → length l.fn.marks ≡ most + 1
      → MarksAt (lines_left l.fn.lines) l.counter most l.marks (lines_left l.left);
  behind : Behind l.fn.lines l.left;
}
