-- `mask_fewest`: the answer, and then zero in every table.
use borrow.Author.Rules.{rules}
use Rattle.mask_fewest.proofs.Promised.{call-gives}
use Rattle.mask_fewest.proofs.mask_fewest.Goals as goal

pub returns : goal.returns
returns c =
    let s = c.args in
    let A = c.answer-r in
    record {
      answers = A.ensures;
      gives = call-gives s.sizes s.text.now s.codes.now s.wanted.now
          s.budget s.out.now s.in_codes.now s.out_codes.now s.tally.now s.operands.now s.results.now s.wires.now
          s.marks.now s.ways.now
          s.best.now s.spans.now A.ensures;
      operands = search rules;
      results = search rules;
      wires = search rules;
      marks = search rules;
      ways = search rules;
      best = search rules;
      spans = search rules;
    }
