-- Question 2, the header, and the lines after it.
use Rattle.netlist.specs.Table.{tables}
use Rattle.std.proofs.lemmas.Result.{err_from_is_err_and}
use Rattle.from_aiger.proofs.WholeFile.{read-long, read-no-head, read_after}
use Rattle.from_aiger.proofs.read.read_file.Goals as goal

pub returns-then-limits-text : goal.returns-then-limits-text
returns-then-limits-text c = read-long c.args.limits c.args.text.now c.if-limits-text.true

pub returns-in_err-h : goal.returns-in_err-h
returns-in_err-h c =
    let p = err_from_is_err_and c.from_residual.result c.from_residual.ensures.1 in
    rw (p.1, p.2) (read-no-head c.args.limits c.args.text.now c.if-limits-text.false _ c.in_err-h.ensures)

pub returns : goal.returns
returns c =
    let b = c.after_head in
    read_after c.args.limits c.args.text.now c.if-limits-text.false (tables b.new.operands b.new.results) b.result
    c.in_ok-h.ensures b.ensures
