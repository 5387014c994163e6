-- How many, and the widths.
use Rattle.reader.proofs.WidthLines.{values-off, values-bad, values-zero, values-count, values-good}
use Rattle.reader.proofs.header_lines.values_line.Goals as goal

pub returns-in_default : goal.returns-in_default
returns-in_default c = values-off _ c.in_default.ensures

pub returns-in_err-n : goal.returns-in_err-n
returns-in_err-n c = rw c.from_residual.ensures (values-bad _ _ _ c.in-Some.ensures c.in_err-n.ensures)

pub returns-then-count-eq0 : goal.returns-then-count-eq0
returns-then-count-eq0 c = values-zero _ _ _ c.in-Some.ensures _ _ _ _ c.in_ok-n.ensures c.if-count-eq0.true

pub returns-then-count-n : goal.returns-then-count-n
returns-then-count-n c = values-count _ _ _ c.in-Some.ensures _ _ _ _ c.in_ok-n.ensures c.if-count-eq0.false
    c.if-count-n.true

pub returns : goal.returns
returns c = values-good _ _ _ c.in-Some.ensures _ _ _ _ c.in_ok-n.ensures c.if-count-eq0.false c.if-count-n.false
