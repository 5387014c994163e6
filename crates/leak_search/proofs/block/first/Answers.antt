-- `first`: the counts of the first setting, wire by wire.
use mathlib.Core.Path.{◌∙◌}
use Rattle.leak_search.proofs.Tallies.{told-all, ones-past}
use Rattle.leak_search.proofs.block.first.Goals as goal

pub returns : goal.returns
returns c = told-all c.each.new.dst (c.each.auto.dst ∙ c.requires) (c.each.ensures 0 0)
    (λ v s. ones-past c.args.words.now v 0)
