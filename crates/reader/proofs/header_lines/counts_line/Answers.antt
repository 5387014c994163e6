-- Two numbers and the line's end.
use Rattle.reader.proofs.Headers.{pair-first, pair-second, pair-more, pair-good}
use Rattle.reader.proofs.header_lines.counts_line.Goals as goal

pub returns-in_default : goal.returns-in_default
returns-in_default c = pair-first _ c.in_default.ensures

pub returns-in_default-next_number : goal.returns-in_default-next_number
returns-in_default-next_number c = pair-second _ _ _ c.in-Some.ensures c.in_default-next_number.ensures

pub returns-in_err-next : goal.returns-in_err-next
returns-in_err-next c = rw c.from_residual.ensures
    (pair-more _ _ _ _ _ c.in-Some.ensures c.in-Some-next_number.ensures c.in_err-next.ensures)

pub returns : goal.returns
returns c = pair-good _ _ _ _ _ c.in-Some.ensures c.in-Some-next_number.ensures _ c.in_ok-next.ensures
