-- `answer`: the netlist read, and both verdicts on it.
use Rattle.std.proofs.lemmas.Result.{err_from_is_err_and}
use Rattle.check_wide.proofs.Calling.{wires-upto, call-not, call-read}
use native.Mathlib.Omega.{arith}
use borrow.Author.Rules.{rules}
use Rattle.check_wide.proofs.answer.Goals as goal

pub judge-requires : goal.judge-requires
judge-requires c =
    let a = (rw c.masked_limits.ensures at c.in_ok-netlist.ensures).1 in (
      search rules,
      search rules,
      search rules,
      search rules,
      search rules,
      search rules,
      search rules,
      search rules,
      omega (arith, a.wires, wires-upto c.args.sizes),
    )

pub returns-in_err-netlist : goal.returns-in_err-netlist
returns-in_err-netlist c =
    let s = c.args in
    let p = err_from_is_err_and c.from_residual.result c.from_residual.ensures.1 in
    let k = rw c.masked_limits.ensures at c.in_err-netlist.ensures in
    rw (p.1, p.2) (call-not s.sizes s.text.now s.codes.now s.pairs.now s.operands.now s.results.now s.marks.now
    s.words.now s.base.now
    s.bases.now s.set0.now s.set1.now s.set2.now s.set3.now s.paints.now k)

pub returns : goal.returns
returns c =
    let s = c.args in
    let k = rw c.masked_limits.ensures at c.in_ok-netlist.ensures in
    call-read s.sizes s.text.now s.codes.now s.pairs.now s.operands.now s.results.now s.marks.now s.words.now s.base.now
    s.bases.now s.set0.now s.set1.now s.set2.now s.set3.now s.paints.now k c.judge.ensures
