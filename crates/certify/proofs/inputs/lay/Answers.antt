-- `certify_pass::inputs::lay` meets its contract.
use mathlib.Core.Path.{ap, ◌∙◌}
use Rattle.certify.specs.Step.{state, given_if}
use Rattle.certify.proofs.inputs.lay.Goals as goal

pub returns-in-Some-clause-is : goal.returns-in-Some-clause-is
returns-in-Some-clause-is c = λ h.
    let s = state c.args.records.now c.args.marks.now h in
    c.give.ensures.is h ∙ ap (given_if s c.args.index) c.in-Some.ensures.is
