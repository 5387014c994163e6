-- `parties_line`: a number, and two alone.
use Rattle.reader.proofs.OldHeaders.{parties-first, parties-rest, parties-no-one, parties-no-output, parties-good}
use Rattle.reader.proofs.old_header.parties_line.Goals as goal

pub returns-in_default : goal.returns-in_default
returns-in_default c = parties-first _ c.in_default.ensures

pub returns-in_err-two : goal.returns-in_err-two
returns-in_err-two c = rw c.from_residual.ensures
    (parties-rest _ _ _ c.in-Some.ensures c.in_err-two.ensures)

pub returns-then-one-eq0 : goal.returns-then-one-eq0
returns-then-one-eq0 c = parties-no-one _ _ _ _ _ _ c.in-Some.ensures c.in_ok-two.ensures c.if-one-eq0.true

pub returns-then-output-eq0 : goal.returns-then-output-eq0
returns-then-output-eq0 c =
    parties-no-output _ _ _ _ _ _ c.in-Some.ensures c.in_ok-two.ensures c.if-one-eq0.false c.if-output-eq0.true

pub returns : goal.returns
returns c = parties-good _ _ _ _ _ _ c.in-Some.ensures c.in_ok-two.ensures c.if-one-eq0.false c.if-output-eq0.false
