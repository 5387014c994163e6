-- `leak::load::pattern` meets its contract.
use mathlib.Core.Path.{sym, ◌∙◌}
use Rattle.leak_search.proofs.Numbers.{pattern-law, high_lane}
use Rattle.leak_search.proofs.load.pattern.Goals as goal

pub returns-then-index-lt6 : goal.returns-then-index-lt6
returns-then-index-lt6 c j l = pattern-law c.args.block j l c.args.index c.if-index-lt6.true

pub returns-else-index-lt6 : goal.returns-else-index-lt6
returns-else-index-lt6 c j l =
    let s = c.args in
    c.spread.ensures j l ∙ sym (high_lane 6 s.index s.block j l c.if-index-lt6.false)
