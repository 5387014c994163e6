-- `open_at`: the head, the number of gate lines, the room for the widths, and then the widths.
use Rattle.std.proofs.lemmas.Result.{err_from_is_err_and}
use Rattle.reader.proofs.Openings.{head-under, open-not, open-6, open-14-in, open-14-out, open_at, copied}
use native.Mathlib.Omega.{arith}
use Rattle.reader.proofs.reader_opening.open_at.Goals as goal

pub returns-in_err-h : goal.returns-in_err-h
returns-in_err-h c =
    let p = err_from_is_err_and c.from_residual.result c.from_residual.ensures.1 in
    let a = rw c.masked_limits.ensures at c.in_err-h.ensures in
    rw (p.1, p.2) (open-not a)

pub returns-then-count_lines-h : goal.returns-then-count_lines-h
returns-then-count_lines-h c = open-6 (head-under c.masked_limits.ensures c.in_ok-h.ensures) c.count_lines.ensures
    c.if-count_lines-h.true

pub returns-then-inputs-h : goal.returns-then-inputs-h
returns-then-inputs-h c =
    open-14-in (head-under c.masked_limits.ensures c.in_ok-h.ensures) c.count_lines.ensures c.if-count_lines-h.false
    c.if-inputs-h.true

pub returns-then-outputs-h : goal.returns-then-outputs-h
returns-then-outputs-h c =
    open-14-out (head-under c.masked_limits.ensures c.in_ok-h.ensures) c.count_lines.ensures c.if-count_lines-h.false
    c.if-inputs-h.false
    c.if-outputs-h.true

pub returns : goal.returns
returns c =
    let a = head-under c.masked_limits.ensures c.in_ok-h.ensures in
    let i = c.if-inputs-h.false in
    let o = c.if-outputs-h.false in
    open_at a c.count_lines.ensures c.if-count_lines-h.false (rw c.new.ensures.0) c.new.ensures.1 i o
    (omega (arith, c.read_opening.auto.inputs)) (omega (arith, c.read_opening.auto.outputs))
    (rw c.copy_from_slice.ensures.after (copied _ _ _ (omega (arith, a.inside.inputs, c.read_opening.auto.inputs)) i))
    (rw c.copy_from_slice-2.ensures.after (copied _ _ _ (omega (arith, a.inside.outputs, c.read_opening.auto.outputs))
    o))
