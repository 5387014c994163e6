-- `read_old_header`: two lines, with blank lines between them.
use mathlib.Core.Path.{refl}
use Rattle.reader.proofs.OldHeaders.{no-old-header-1, no-old-header-2, an-old-header}
use Rattle.reader.proofs.old_header.read_old_header.Goals as goal

pub returns-in_err-gates : goal.returns-in_err-gates
returns-in_err-gates c = rw c.from_residual.ensures (no-old-header-1 _ _ c.skip_blanks-line1.ensures
    c.in_err-gates.ensures)

pub returns-in_err-p : goal.returns-in_err-p
returns-in_err-p c =
    rw c.from_residual-in_err-p.ensures
    (no-old-header-2 _ _ c.skip_blanks-line1.ensures _ _ _ c.in_ok-gates.ensures _ c.skip_blanks-line2.ensures
    c.in_err-p.ensures)

pub returns : goal.returns
returns c =
    an-old-header _ _ c.skip_blanks-line1.ensures _ _ _ c.in_ok-gates.ensures _ c.skip_blanks-line2.ensures _ _ refl
    c.in_ok-p.ensures
    c.args.outputs.now c.keep_inputs-values.ensures c.put.ensures
