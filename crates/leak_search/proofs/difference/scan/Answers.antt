-- `check_leak::difference::scan` meets its contract.
use Rattle.leak_search.proofs.Differences.{difference-cut}
use Rattle.leak_search.proofs.difference.scan.Goals as goal

pub returns-else-all_level : goal.returns-else-all_level
returns-else-all_level c = difference-cut c.args.words.now c.args.base.now c.args.limit c.requires.0
    c.first_difference.ensures
