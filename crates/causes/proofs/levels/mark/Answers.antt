-- `levels::mark`: the marks are joined one by one.
use Rattle.std.proofs.Common.{arith}
use Rattle.causes.proofs.Marking.{marking-none, marking-more}
use Rattle.causes.proofs.levels.mark.Goals as goal

pub loop-w-init : goal.loop-w-init
loop-w-init c = marking-none _ _ _

pub loop-w-preserved : goal.loop-w-preserved
loop-w-preserved c = marking-more _ c.loop-w.invariant (omega (arith, c.loop-w.invariant.long)) c.joined.ensures

pub returns : goal.returns
returns c = λ w l. c.loop-w.invariant.done w (omega arith)
