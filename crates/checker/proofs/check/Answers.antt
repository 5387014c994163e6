-- `check`: the answer, and then zero in every table.
use borrow.Author.Rules.{rules}
use Rattle.checker.proofs.Calling.{call-judged}
use Rattle.checker.proofs.check.Goals as goal

pub returns : goal.returns
returns c =
    let s = c.args in
    let a = c.answer-r in
    record {
      outcome = a.ensures;
      judged = call-judged s.sizes s.text.now s.codes.now s.operands.now s.results.now s.marks.now s.words.now
          s.base.now
          a.result a.ensures;
      operands = search rules;
      results = search rules;
      marks = search rules;
      words = search rules;
      base = search rules;
    }
