-- `mask`: the answer, and then zero in every table.
use borrow.Author.Rules.{rules}
use Rattle.mask.proofs.Promised.{call-masks}
use Rattle.mask.proofs.mask.Goals as goal

pub returns : goal.returns
returns c =
    let s = c.args in
    record {
      answers = c.answer-r.ensures;
      masks =
          call-masks s.sizes s.text.now s.codes.now s.wanted.now s.out.now s.out_codes.now
          s.operands.now s.results.now s.wires.now s.marks.now c.answer-r.ensures;
      operands = search rules;
      results = search rules;
      wires = search rules;
      marks = search rules;
    }
