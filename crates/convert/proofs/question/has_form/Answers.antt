-- `has_form`: by the dialect, the values and the gates.
use Rattle.std.proofs.Common.{◌∙◌}
use Rattle.convert.proofs.OldEntries.{form-gates, entries-gates}
use Rattle.convert.proofs.question.has_form.Goals as goal

pub returns-then-outputs-le1 : goal.returns-then-outputs-le1
returns-then-outputs-le1 c =
    let a = c.args in
    let g = a.gates in
    let t = c.if-outputs-le1.true in
    rw c.in-Old.is (form-gates _ a.inputs a.outputs t.0 t.1
    (c.old_entries.ensures ∙ entries-gates g.operands.now g.results.now g.count c.requires))
