-- `positive`: there is a width, and none is 0.
use Rattle.std.proofs.Common.{arith}
use Rattle.std.proofs.lemmas.Grind.{common_steps}
use Rattle.session.proofs.Openings.{all-positive}
use Rattle.session.proofs.opening.positive.Goals as goal

pub returns-then-not-is_empty : goal.returns-then-not-is_empty
returns-then-not-is_empty c = all-positive c.args.widths.now (grind (arith, common_steps)) c.contains.ensures.value
