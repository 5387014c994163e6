-- `step_at`: blank lines are passed, and the line is asked.
use mathlib.Core.Path.{◌≡◌, ap, ◌∙◌}
use mathlib.Core.Option.{some}
use Rattle.std.proofs.lemmas.Result.{err_from_is_err_and}
use Rattle.netlist.specs.declared.Refusal.TheVariants.{Line}
use Rattle.reader.proofs.Stepping.{end-past, end-blank, no_step, on_step}
use Rattle.reader.proofs.step.step_at.Goals as goal

pub returns-then-text-at : goal.returns-then-text-at
returns-then-text-at c = end-past _ _ c.if-text-at.true

pub returns-then-text-line : goal.returns-then-text-line
returns-then-text-line c = end-blank _ _ c.skip_blanks-line.ensures c.if-text-line.true

pub returns-in_err-g : goal.returns-in_err-g
returns-in_err-g c =
    let e = c.in_err-g.ensures in
    let p = err_from_is_err_and c.from_residual.result c.from_residual.ensures.1 in
    let d : c.in_err-g.field-0.0 ≡ Line = cc (rw e.ok_part at e.value) in
    rw (p.1, p.2, d) (no_step _ _ c.skip_blanks-line.ensures c.if-text-line.false
    (let l = rw e.ok_part at c.gate_line.ensures in l.gate))

pub returns : goal.returns
returns c =
    let l = rw c.in_ok-g.ensures.ok_part at c.gate_line.ensures in
    on_step _ _ c.skip_blanks-line.ensures c.if-text-line.false _ _ (ap some c.from.ensures ∙ l.gate) l.next
