-- `find`: block by block.
use Rattle.check_pairs.proofs.Finds.{find-more}
use Rattle.check_pairs.proofs.search.find.Goals as goal

pub loop-block-preserved : goal.loop-block-preserved
loop-block-preserved c =
    let run = c.run in
    find-more c.loop-block.invariant
    c.loop-block-test.true
    run.new.words run.new.bases
    run.new.base c.look-best.result run.auto.words run.auto.bases
    run.auto.base run.ensures c.look-best.ensures
