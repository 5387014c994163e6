-- `answer`: the source read, and its masked netlist.
use Rattle.std.proofs.lemmas.Result.{err_from_is_err_and}
use Rattle.mask.proofs.Promised.{call-not, call-read}
use Rattle.mask.proofs.answer.Goals as goal

pub returns-in_err-h : goal.returns-in_err-h
returns-in_err-h c =
    let s = c.args in
    let p = err_from_is_err_and c.from_residual.result c.from_residual.ensures.1 in
    let k = rw c.source_limits-l.ensures at c.in_err-h.ensures in
    rw (p.1, p.2) (call-not s.sizes s.text.now s.codes.now s.wanted.now _ _ s.operands.now s.results.now s.wires.now
    s.marks.now k)

pub returns : goal.returns
returns c =
    let s = c.args in
    let k = rw c.source_limits-l.ensures at c.in_ok-h.ensures in
    let e = c.new-source.ensures in
    call-read s.sizes s.text.now s.codes.now s.wanted.now s.out.now s.out_codes.now s.operands.now s.results.now
    s.wires.now s.marks.now k
    (rw (e.0, e.1, e.2) at c.ask_lists.ensures)
