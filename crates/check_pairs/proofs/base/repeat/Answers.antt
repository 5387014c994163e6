-- `repeat`: the first setting's lanes, wire by wire.
use mathlib.Core.Path.{◌∙◌}
use Rattle.check_pairs.proofs.Lanes.{repeated-all}
use Rattle.check_pairs.proofs.base.repeat.Goals as goal

pub returns : goal.returns
returns c = repeated-all c.args.words.now c.each.new.dst (c.each.auto.dst ∙ c.requires) (c.each.ensures 0 0)
