-- `certify_pass::gate::step` meets its contract.
use mathlib.Core.Path.{ap, ◌∙◌}
use Rattle.certify.specs.Step.{State, step_of, leaves_of, all_pairs}
use Rattle.certify.proofs.gate.step.Goals as goal

pub returns-clause-is : goal.returns-clause-is
unfolding step_of
returns-clause-is c =
    let g = c.args.gate in
    c.leaves.ensures.is ∙ ap (λ (s : State). leaves_of s g.result) (c.pairs.ensures.is c.first.new.hints
    ∙ ap (λ (s : State). all_pairs s g) c.first.ensures.is)
