-- The answer, and then zero in every table.
use borrow.Author.Rules.{rules}
use Rattle.from_aiger.proofs.Calling.{call-delivered}
use Rattle.from_aiger.proofs.from_aiger.Goals as goal

pub returns : goal.returns
returns c =
    let s = c.args in
    let a = c.answer-r in
    record {
      answers = a.ensures;
      delivered = call-delivered s.sizes s.text.now s.out.now s.operands.now s.results.now s.variables.now a.ensures;
      operands = search rules;
      results = search rules;
      variables = search rules;
    }
