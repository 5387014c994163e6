-- `all_secret`: no code is 0.
use Rattle.std.proofs.Common.{ap, ◌∙◌}
use mathlib.Core.Bool.{not}
use Rattle.join.proofs.Calling.{no_zero}
use Rattle.join.proofs.all_secret.Goals as goal

pub returns : goal.returns
returns c = ap not c.contains.ensures.value ∙ no_zero c.args.codes.now
