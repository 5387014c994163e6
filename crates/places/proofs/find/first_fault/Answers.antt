-- `first_fault`: one question after another.
use native.Mathlib.Omega.{arith}
use Rattle.places.specs.Places.{byte, header_line}
use Rattle.places.proofs.Asking.{found-long, refuses-bytes, refuses-header, found-header, found-line}
use Rattle.places.proofs.find.first_fault.Goals as goal

pub returns-then-limits-text : goal.returns-then-limits-text
returns-then-limits-text c = rw c.refusal.ensures (found-long _ _ c.if-limits-text.true)

pub returns-in-Some : goal.returns-in-Some
returns-in-Some c =
    let b = c.in-Some.ensures in
    rw c.refusal-in-Some.ensures (refuses-bytes _ _ (omega (arith, c.if-limits-text.false)) b.1, byte _ b.0)

pub returns-in_default-read_header : goal.returns-in_default-read_header
returns-in_default-read_header c =
    rw c.refusal-in_default-read_header.ensures (
      refuses-header _ _ (omega (arith, c.if-limits-text.false)) c.in_default.ensures c.in_default-read_header.ensures,
      header_line _ c.first_refused-line.ensures,
    )

pub returns-in-Some-header_fault : goal.returns-in-Some-header_fault
returns-in-Some-header_fault c =
    found-header _ _ (omega (arith, c.if-limits-text.false)) c.in_default.ensures c.in-Some-read_header.ensures _
    (let h = c.in-Some-header_fault.ensures in rw c.count_lines.ensures at h)

pub returns : goal.returns
returns c =
    let h = c.in_default-header_fault.ensures in
    found-line _ _ (omega (arith, c.if-limits-text.false)) c.in_default.ensures c.in-Some-read_header.ensures h.0
    (let k = h.1 in rw c.count_lines.ensures at k) _ c.line_fault.ensures
