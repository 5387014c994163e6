-- `bytes`: the first bytes are written.
use Rattle.writer.proofs.Writing.{copied_more}
use Rattle.writer.proofs.bytes.Goals as goal

pub loop-b-preserved : goal.loop-b-preserved
loop-b-preserved c = copied_more c.loop-b.invariant c.loop-b-test.true c.put-next.ensures
