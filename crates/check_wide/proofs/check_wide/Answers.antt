-- `check_wide`: the answer, and then zero in every table.
use borrow.Author.Rules.{rules}
use Rattle.check_wide.proofs.Calling.{call-judged, call-ones}
use Rattle.check_wide.proofs.check_wide.Goals as goal

pub returns : goal.returns
returns c =
    let s = c.args in
    let a = c.answer-r in
    record {
      outcome = a.ensures;
      ones = call-ones s.sizes s.text.now s.codes.now s.pairs.now s.operands.now s.results.now s.marks.now s.words.now
          s.base.now s.bases.now s.set0.now s.set1.now s.set2.now s.set3.now s.paints.now a.result a.ensures;
      judged = call-judged s.sizes s.text.now s.codes.now s.pairs.now s.operands.now s.results.now s.marks.now
          s.words.now s.base.now
          s.bases.now s.set0.now s.set1.now s.set2.now s.set3.now s.paints.now a.result a.ensures;
      operands = search rules;
      results = search rules;
      marks = search rules;
      words = search rules;
      base = search rules;
      bases = search rules;
      set0 = search rules;
      set1 = search rules;
      set2 = search rules;
      set3 = search rules;
      paints = search rules;
    }
