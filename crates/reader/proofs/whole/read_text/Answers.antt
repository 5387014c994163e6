-- `read_text`: the head, and then the gate lines.
use Rattle.std.proofs.lemmas.Result.{err_from_is_err_and}
use Rattle.reader.proofs.Wholes.{read-no-head, read-not, read_done}
use native.Mathlib.Omega.{arith}
use Rattle.reader.proofs.whole.read_text.Goals as goal

pub returns-in_err-h : goal.returns-in_err-h
returns-in_err-h c =
    let p = err_from_is_err_and c.from_residual.result c.from_residual.ensures.1 in
    rw (p.1, p.2) (read-no-head c.in_err-h.ensures)

pub returns-in_err-read_gates : goal.returns-in_err-read_gates
returns-in_err-read_gates c =
    let p = err_from_is_err_and c.from_residual-in_err-read_gates.result c.from_residual-in_err-read_gates.ensures.1 in
    rw (p.1, p.2) (read-not c.in_ok-h.ensures (rw c.in_ok-h.ensures.header.same c.in_err-read_gates.ensures))

pub returns : goal.returns
returns c =
    let p = c.requires.widths_in_bounds in
    read_done c.in_ok-h.ensures (omega (arith, p.0, c.read_opening_in.auto.inputs))
    (omega (arith, p.1, c.read_opening_in.auto.outputs))
    (rw c.in_ok-h.ensures.header.same c.in_ok-read_gates.ensures)
