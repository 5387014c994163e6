-- `rest_of_line`: one number more, or the line's end.
use mathlib.Core.Path.{◌∙◌}
use Rattle.places.proofs.HeaderForms.{numbering-on, numbering-not}
use Rattle.places.proofs.header_lines.rest_of_line.Goals as goal

pub returns-in_err-number : goal.returns-in_err-number
returns-in_err-number c =
    let i = c.loop-here.invariant in
    rw c.from_residual.ensures
    (numbering-not _ c.loop-here.here i.0 _ _ i.1 c.in_err-number.ensures c.in_default.ensures)

pub loop-here-preserved : goal.loop-here-preserved
loop-here-preserved c =
    let i = c.loop-here.invariant in
    let a = c.in_ok-number.ensures in
    (a.same ∙ i.0, rw c.also_positive-positive.ensures (numbering-on _ c.loop-here.here i.0 _ _ i.1 _ _ a))
