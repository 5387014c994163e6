-- `twices::twices`: the first i gates are counted.
use Rattle.fewest.proofs.Counting.{counting_more}
use Rattle.fewest.proofs.twices.twices.Goals as goal

pub loop-i-preserved : goal.loop-i-preserved
loop-i-preserved c = counting_more c.loop-i.invariant (rw c.at.ensures at c.twice-sum.ensures)
