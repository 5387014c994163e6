-- `check_leak::search::find` meets its contract.
use Rattle.leak_search.proofs.Differences.{find-more}
use Rattle.leak_search.proofs.search.find.Goals as goal

pub loop-block-preserved : goal.loop-block-preserved
loop-block-preserved c =
    let at = c.loop-block in
    let search-block = c.search_block-found in
    find-more at.invariant c.loop-block-test.true search-block.new.words search-block.new.base search-block.result
    c.better-best.result
    search-block.auto.words search-block.auto.base (rw c.limit-limit.ensures at search-block.ensures.0)
    search-block.ensures.1 c.better-best.ensures
