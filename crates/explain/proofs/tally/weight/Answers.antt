-- `tally::weight`: bit by bit.
use Rattle.std.proofs.Common.{arith}
use Rattle.explain.proofs.Sums.{weight-small, weight-more}
use Rattle.explain.proofs.tally.weight.Goals as goal

pub overflow_add-total : goal.overflow_add-total
overflow_add-total c =
    let at = c.loop in
    let m = weight-more c.args.bits at.counter at.rest c.loop-test.true in
    let w = weight-small c.args.bits c.args.number in
    omega (arith, m, w, at.invariant, c.ranges.bits.fits)

pub loop-preserved : goal.loop-preserved
loop-preserved c =
    let at = c.loop in
    let m = weight-more c.args.bits at.counter at.rest c.loop-test.true in
    omega (arith, m, at.invariant)
