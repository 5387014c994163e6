-- `plan`: question 14, and the opening's masked gates.
use Rattle.std.proofs.Common.{arith}
use Rattle.std.proofs.lemmas.Grind.{common_steps}
use Rattle.session.specs.Asked.{opening}
use Rattle.session.proofs.Openings.{few-codes, open-count}
use Rattle.session.proofs.opening.plan.Goals as goal

pub returns-then-room-many : goal.returns-then-room-many
unfolding opening
returns-then-room-many c = grind (arith, common_steps, open-count c.args.codes.now)

pub returns : goal.returns
unfolding opening
returns c = record {
  admitted = grind (arith, common_steps, open-count c.args.codes.now);
  count = grind (arith, common_steps, open-count c.args.codes.now);
  fits = omega arith;
  few = grind (arith, common_steps, few-codes c.args.sizes c.args.codes.now);
}
