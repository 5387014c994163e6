-- `polynomial::answer`: the netlist read, and what follows.
use Rattle.std.proofs.lemmas.Result.{err_from_is_err_and}
use Rattle.explain.proofs.Promised.{polynomial-not, polynomial-read}
use Rattle.explain.proofs.polynomial.answer.Goals as goal

pub returns-in_err-netlist : goal.returns-in_err-netlist
returns-in_err-netlist c =
    let s = c.args in
    let p = err_from_is_err_and c.from_residual.result c.from_residual.ensures.1 in
    let k = rw c.masked_limits.ensures at c.in_err-netlist.ensures in
    rw (p.1, p.2)
    (polynomial-not s.sizes s.text.now s.codes.now s.wire s.out.now s.operands.now s.results.now s.marks.now s.words.now
    k)

pub returns : goal.returns
returns c =
    let s = c.args in
    let k = rw c.masked_limits.ensures at c.in_ok-netlist.ensures in
    polynomial-read s.sizes s.text.now s.codes.now s.wire s.out.now s.operands.now s.results.now s.marks.now s.words.now
    k c.judge.ensures
