-- `publics::publics`: the gates of the first i inputs were written.
use Rattle.mask.proofs.PublicBits.{opened-more}
use Rattle.mask.proofs.publics.publics.Goals as goal

pub loop-i-preserved : goal.loop-i-preserved
loop-i-preserved c =
    opened-more c.loop-i.invariant
    c.loop-i-test.true c.one-place.ensures c.past-next.ensures
