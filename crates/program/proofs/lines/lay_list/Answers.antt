-- One entry more, and all of them.
use Rattle.program.proofs.FilesLaws.{listing-more, listed}
use Rattle.program.proofs.lines.lay_list.Goals as goal

pub loop-b-preserved : goal.loop-b-preserved
loop-b-preserved c = listing-more c.loop-b.invariant c.loop-b-test.true c.entry.ensures

pub returns : goal.returns
returns c = listed c.counted-n.ensures c.loop-b.invariant c.loop-b-test.false
