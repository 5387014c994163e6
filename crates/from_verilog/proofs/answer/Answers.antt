-- Question 1, and then the others.
use Rattle.std.proofs.Common.{sym, ◌∙◌}
use Rattle.from_verilog.proofs.Calling.{call-one, call-rest}
use Rattle.from_verilog.proofs.answer.Goals as goal

pub returns-then-not-admit : goal.returns-then-not-admit
returns-then-not-admit c =
    let s = c.args in
    call-one s.sizes s.text.now s.out.now s.operands.now s.results.now s.heads.now s.words.now s.links.now s.states.now
    s.wires.now
    (sym (rw c.source_limits.ensures at c.admit.ensures) ∙ c.if-not-admit.true)

pub returns : goal.returns
returns c =
    let s = c.args in
    call-rest s.sizes s.text.now s.out.now s.operands.now s.results.now s.heads.now s.words.now s.links.now s.states.now
    s.wires.now
    (sym (rw c.source_limits.ensures at c.admit.ensures) ∙ c.if-not-admit.false) c.read_and_write.ensures
