-- `total`: the sum of the widths.
use Rattle.std.proofs.Common.{refl, arith}
use Rattle.std.proofs.lemmas.Grind.{common_steps}
use Rattle.std.proofs.lemmas.List.Recursion.{is_sum_by}
use Rattle.netlist.specs.Lists.{sum}
use Rattle.session.proofs.opening.total.Goals as goal

pub returns : goal.returns
returns c = grind (arith, common_steps, is_sum_by sum (λ x. x) refl (λ _ _. refl))
