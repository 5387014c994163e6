-- `cone`: the answer, and then zero in every table.
use borrow.Author.Rules.{rules}
use Rattle.cones.proofs.cone.Goals as goal

pub returns : goal.returns
returns c =
    let a = c.answer-r in
    record {
      answers = a.ensures;
      operands = search rules;
      results = search rules;
      marks = search rules;
    }
