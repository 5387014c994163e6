-- `tally`: the counts of words, wire by wire.
use mathlib.Core.Path.{◌∙◌}
use Rattle.leak_search.proofs.Tallies.{told-all, ones-past}
use Rattle.check_pairs.proofs.base.tally.Goals as goal

pub returns : goal.returns
returns c = told-all c.each.new.dst (c.each.auto.dst ∙ c.requires) (c.each.ensures 0 0) (ones-past c.args.bases.now)
