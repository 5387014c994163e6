-- `counts::answer`: the netlist read, and what follows.
use Rattle.std.proofs.Common.{arith, length}
use Rattle.std.proofs.lemmas.Result.{err_from_is_err_and}
use Rattle.explain.proofs.Calls.{rooms}
use Rattle.explain.proofs.Promised.{counts-not, counts-read}
use Rattle.explain.proofs.counts.answer.Goals as goal

pub judge-requires : goal.judge-requires
judge-requires c =
    let s = c.args in
    let k = rw c.masked_limits.ensures at c.in_ok-netlist.ensures in
    let p = rooms s.sizes (length s.operands.now) (length s.results.now) (length s.bits.now) (length s.words.now)
    (length s.bases.now) c.in_ok-netlist.netlist.header.wires k.0 k.1.wires in
    (p.0, omega (arith, p.1, c.read.auto.marks), p.2)

pub returns-in_err-netlist : goal.returns-in_err-netlist
returns-in_err-netlist c =
    let s = c.args in
    let p = err_from_is_err_and c.from_residual.result c.from_residual.ensures.1 in
    let k = rw c.masked_limits.ensures at c.in_err-netlist.ensures in
    rw (p.1, p.2)
    (counts-not s.sizes s.text.now s.codes.now s.wire s.out.now s.operands.now s.results.now s.bits.now s.words.now
    s.bases.now k)

pub returns : goal.returns
returns c =
    let s = c.args in
    let k = rw c.masked_limits.ensures at c.in_ok-netlist.ensures in
    counts-read s.sizes s.text.now s.codes.now s.wire s.out.now s.operands.now s.results.now s.bits.now s.words.now
    s.bases.now k c.judge.ensures
