-- The answer, and then zero in every table.
use Rattle.std.proofs.Common.{rules}
use Rattle.from_verilog.proofs.Calling.{call-delivered, call-grammar, call-unread}
use Rattle.from_verilog.proofs.from_verilog.Goals as goal

pub returns : goal.returns
returns c =
    let s = c.args in
    let a = c.answer-r in
    record {
      answers = a.ensures;
      delivered =
          call-delivered s.sizes s.text.now s.out.now s.operands.now s.results.now s.heads.now s.words.now s.links.now
          s.states.now
          s.wires.now a.ensures;
      grammar =
          call-grammar s.sizes s.text.now s.out.now s.operands.now s.results.now s.heads.now s.words.now s.links.now
          s.states.now s.wires.now a.ensures;
      unread =
          call-unread s.sizes s.text.now s.out.now s.operands.now s.results.now s.heads.now s.words.now s.links.now
          s.states.now s.wires.now a.ensures;
      operands = search rules;
      results = search rules;
      heads = search rules;
      words = search rules;
      links = search rules;
      states = search rules;
      wires = search rules;
    }
