-- `polynomial::polynomial`: the answer, and then zero in every table.
use borrow.Author.Rules.{rules}
use Rattle.explain.proofs.Promised.{polynomial-function}
use Rattle.explain.proofs.polynomial.polynomial.Goals as goal

pub returns : goal.returns
returns c =
    let s = c.args in
    let a = c.answer-r in
    record {
      answers = a.ensures;
      function = polynomial-function s.sizes s.text.now s.codes.now s.wire s.out.now s.operands.now s.results.now
          s.marks.now s.words.now a.ensures;
      operands = search rules;
      results = search rules;
      marks = search rules;
      words = search rules;
    }
