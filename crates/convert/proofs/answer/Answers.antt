-- `answer`: what is made of the netlist read.
use Rattle.convert.proofs.Converting.{call-read}
use Rattle.convert.proofs.answer.Goals as goal

pub returns : goal.returns
returns c =
    let s = c.args in
    call-read s.from s.to s.sizes s.text.now s.out.now s.operands.now s.results.now s.marks.now
    (rw c.masked_limits.ensures at c.in_ok-h.ensures) c.write.ensures
