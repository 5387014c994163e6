-- Three lines, with blank lines between them.
use mathlib.Core.Path.{refl}
use Rattle.reader.proofs.Headers.{no-header-1, no-header-2, no-header-3, a-header}
use Rattle.reader.proofs.header_lines.read_header.Goals as goal

pub returns-in_err-gates : goal.returns-in_err-gates
returns-in_err-gates c = rw c.from_residual.ensures (no-header-1 _ _ c.skip_blanks-line1.ensures c.in_err-gates.ensures)

pub returns-in_err-ni : goal.returns-in_err-ni
returns-in_err-ni c =
    rw c.from_residual-in_err-ni.ensures
    (no-header-2 _ _ c.skip_blanks-line1.ensures _ _ _ c.in_ok-gates.ensures _ c.skip_blanks-line2.ensures
    c.in_err-ni.ensures)

pub returns-in_err-no : goal.returns-in_err-no
returns-in_err-no c =
    rw c.from_residual-in_err-no.ensures
    (no-header-3 _ _ c.skip_blanks-line1.ensures _ _ _ c.in_ok-gates.ensures _ c.skip_blanks-line2.ensures _ _ _ _
    c.in_ok-ni.ensures _
    c.skip_blanks-line3.ensures c.in_err-no.ensures)

pub returns : goal.returns
returns c =
    a-header _ _ c.skip_blanks-line1.ensures _ _ _ c.in_ok-gates.ensures _ c.skip_blanks-line2.ensures _ _ _ _
    c.in_ok-ni.ensures _
    c.skip_blanks-line3.ensures _ _ _ _ refl c.in_ok-no.ensures
