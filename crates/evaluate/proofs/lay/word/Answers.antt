-- `evaluate::lay::word` meets its contract.
use mathlib.Core.Path.{◌∙◌}
use Rattle.netlist.specs.Services.{is_one}
use Rattle.evaluate.proofs.Lanes.{bool-bit}
use Rattle.evaluate.proofs.lay.word.Goals as goal

pub returns : goal.returns
returns c = c.from.ensures ∙ bool-bit (is_one c.args.byte)
