-- `answer`: the netlist read, and both verdicts on it.
use Rattle.std.proofs.lemmas.Result.{err_from_is_err_and}
use borrow.Author.Rules.{rules}
use Rattle.check_pairs.proofs.Calling.{call-not, call-read}
use Rattle.check_pairs.proofs.answer.Goals as goal

pub returns-in_err-netlist : goal.returns-in_err-netlist
returns-in_err-netlist c =
    let s = c.args in
    let p = err_from_is_err_and c.from_residual.result c.from_residual.ensures.1 in
    rw (p.1, p.2) (call-not s.sizes s.text.now s.codes.now s.pairs.now s.operands.now s.results.now s.marks.now
    s.words.now s.base.now s.bases.now
    (search rules))

pub returns : goal.returns
returns c =
    let s = c.args in
    let k = rw c.masked_limits.ensures at c.in_ok-netlist.ensures in
    call-read s.sizes s.text.now s.codes.now s.pairs.now s.operands.now s.results.now s.marks.now s.words.now s.base.now
    s.bases.now k c.judge.ensures
