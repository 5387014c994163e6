-- `transform::has`: a bit by a shift.
use Rattle.std.proofs.Common.{ap, ◌∙◌, nat_eq}
use Rattle.evaluate.specs.Lane.{lane}
use Rattle.evaluate.proofs.Lanes.{bit-low}
use Rattle.explain.proofs.Adding.{bit-one}
use Rattle.explain.proofs.transform.has.Goals as goal

pub returns : goal.returns
returns c = ap (λ x. nat_eq x 1) (bit-low c.args.index c.args.number) ∙ bit-one (lane c.args.index c.args.number)
