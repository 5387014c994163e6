-- `twins`: the answer, and then zero in every table.
use borrow.Author.Rules.{rules}
use Rattle.mask.proofs.TwinsPromised.{call-twins}
use Rattle.mask.proofs.twins.twins.Goals as goal

pub returns : goal.returns
returns c =
    let s = c.args in
    let a = c.answer-r in
    record {
      answers = a.ensures;
      twins =
          call-twins s.sizes s.text.now s.codes.now s.wires.now s.out_codes.now s.operands.now s.results.now s.marks.now
          a.ensures;
      operands = search rules;
      results = search rules;
      marks = search rules;
    }
