-- The lines so far are AND lines, and have at most three gates each.
use native.Mathlib.Omega.{arith}
use borrow.Author.Rules.{rules}
use Rattle.from_aiger.proofs.AndLoop.{building-more, building-no}
use Rattle.from_aiger.proofs.ands.ands.Goals as goal

pub returns-in_err-count-clause-ands : goal.returns-in_err-count-clause-ands
returns-in_err-count-clause-ands c =
    rw c.from_residual.ensures (
      λ most z. building-no (c.loop.invariant.built most z) _ c.loop-test.true
          (c.in_err-count.ensures.line.0 most (omega (arith, z))),
      omega arith,
    )

pub loop-preserved : goal.loop-preserved
loop-preserved c =
    let m = c.in_ok-count.ensures.line in
    record {
      built = λ most z. building-more (c.loop.invariant.built most z) (m.0 most (omega (arith, z)));
      few
          = omega (arith, m.1);
      following = search rules;
    }
