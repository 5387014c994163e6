-- `counts::counts`: the answer, and then zero in every table.
use borrow.Author.Rules.{rules}
use Rattle.explain.proofs.Promised.{counts-counted}
use Rattle.explain.proofs.counts.counts.Goals as goal

pub returns : goal.returns
returns c =
    let s = c.args in
    let a = c.answer-r in
    record {
      answers = a.ensures;
      counted = counts-counted s.sizes s.text.now s.codes.now s.wire s.out.now s.operands.now s.results.now s.bits.now
          s.words.now s.bases.now a.ensures;
      operands = search rules;
      results = search rules;
      bits = search rules;
      words = search rules;
      bases = search rules;
    }
