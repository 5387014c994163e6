-- `fill`: one record more was read.
use Rattle.std.proofs.Common.{arith}
use Rattle.std.proofs.lemmas.Result.{err_from_is_err_and}
use Rattle.netlist.specs.Table.{tables}
use Rattle.session.proofs.Filling.{filled_no, filled_more}
use Rattle.session.proofs.shown_text.fill.Goals as goal

pub returns-in_err-e : goal.returns-in_err-e
returns-in_err-e c =
    let l = c.loop-i in
    let p = err_from_is_err_and c.from_residual.result c.from_residual.ensures.1 in
    rw (p.1, p.2) (filled_no c.args.count c.args.source.now l.i (tables l.operands l.results) l.invariant
    c.loop-i-test.true
    _ c.in_err-e.ensures)

pub loop-i-preserved : goal.loop-i-preserved
loop-i-preserved c =
    let l = c.loop-i in
    let q = c.requires in
    rw c.put.ensures (filled_more c.args.count c.args.source.now l.i (tables l.operands l.results) l.invariant
    c.loop-i-test.true c.in_ok-e.e
    (record {
      operands = omega (arith, c.loop-i-test.true, q.0, l.auto.operands);
      results
          = omega (arith, c.loop-i-test.true, q.1, l.auto.results);
    })
    c.in_ok-e.ensures)
