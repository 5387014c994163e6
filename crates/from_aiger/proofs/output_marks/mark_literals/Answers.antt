-- The variables of the lines so far have marks.
use native.Mathlib.Omega.{arith}
use borrow.Author.Rules.{rules}
use Rattle.from_aiger.proofs.MarkedLines.{marks-more, marks-no, marks-high}
use Rattle.from_aiger.proofs.output_marks.mark_literals.Goals as goal

pub returns-in_err-x-clause-marks : goal.returns-in_err-x-clause-marks
returns-in_err-x-clause-marks c =
    rw c.from_residual.ensures (λ most z. marks-no (c.loop.invariant.marked most z) _ c.loop-test.true
    c.in_err-x.ensures.line)

pub returns-then-marks-x-clause-marks : goal.returns-then-marks-x-clause-marks
returns-then-marks-x-clause-marks c = λ most z.
    marks-high (c.loop.invariant.marked most z) _ c.loop-test.true c.in_ok-x.ensures.line
    (omega (arith, z, c.if-marks-x.true))

pub loop-preserved : goal.loop-preserved
loop-preserved c = record {
  marked = λ most z. rw c.mark.ensures (marks-more (c.loop.invariant.marked most z) c.in_ok-x.ensures.line
      (omega (arith, z, c.if-marks-x.false)) (omega arith));
  behind = search rules;
}
