-- `join`: the answer, and then zero in every table.
use Rattle.std.proofs.Common.{arith}
use Rattle.std.proofs.lemmas.Grind.{common_steps}
use Rattle.join.proofs.Calling.{call-delivered}
use Rattle.join.proofs.join.Goals as goal

pub returns : goal.returns
returns c =
    let s = c.args in
    let a = c.answer-r in
    record {
      answers = a.ensures;
      delivered = call-delivered s.sizes s.first.now s.second.now s.codes.now s.out_codes.now s.inner.now s.out.now
          s.operands.now s.results.now s.marks.now
          s.words.now s.base.now a.ensures;
      operands = grind (arith, common_steps);
      results = grind (arith, common_steps);
      marks = grind (arith, common_steps);
      words = grind (arith, common_steps);
      base = grind (arith, common_steps);
    }
