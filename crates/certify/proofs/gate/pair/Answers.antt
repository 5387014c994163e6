-- `certify_pass::gate::pair` meets its contract.
use Rattle.certify.proofs.Steps.{joined-known, read_known}
use mathlib.Core.Path.{ap, ◌∙◌}
use Rattle.certify.specs.Step.{state, added_if, paired_on}
use Rattle.certify.proofs.gate.pair.Goals as goal

pub returns-in-Some-combine-clause-says : goal.returns-in-Some-combine-clause-says
returns-in-Some-combine-clause-says c = record {
  holds = λ N codes M X H.
      let g = c.args.gate in
      let Y = read_known g.right c.args.index c.requires.1 H.known c.in-Some.ensures.says.0 c.in-Some.ensures.says.1 in
      c.add.ensures.says N codes (joined-known g.kind g.left g.right g.result c.in-Some-combine.ensures.says M X Y) H;
}

pub returns-in-Some-combine-clause-is : goal.returns-in-Some-combine-clause-is
returns-in-Some-combine-clause-is c = λ h.
    let g = c.args.gate in
    let s = state c.args.records.now c.args.marks.now h in
    c.add.ensures.is h ∙ ap (added_if s g.result) c.in-Some-combine.ensures.is ∙ ap (paired_on s g c.args.first)
    c.in-Some.ensures.is
