-- `mask_and_lines::steps` meets its contract.
use Rattle.mask.proofs.Rows.{walked_more}
use Rattle.mask.proofs.and_lines.steps.Goals as goal

pub loop-i-preserved : goal.loop-i-preserved
loop-i-preserved c =
    walked_more c.loop-i.invariant c.loop-i-test.true
    c.row-next.ensures
