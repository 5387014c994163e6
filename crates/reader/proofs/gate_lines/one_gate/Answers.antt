-- `one_gate`: questions 7 to 9 in order, for every list of results that the table marks.
use mathlib.Core.Path.{◌≡◌, sym, ◌∙◌}
use Rattle.std.proofs.lemmas.Result.{err_from_is_err_and}
use Rattle.netlist.specs.declared.Refusal.TheVariants.{Line}
use Rattle.gates.proofs.EntriesLaws.{said-result}
use Rattle.reader.proofs.Reading.{one-7, one-lacks, one-8, one-9, one_on}
use Rattle.reader.proofs.gate_lines.one_gate.Goals as goal

pub returns-in_err-g : goal.returns-in_err-g
returns-in_err-g c =
    let e = c.in_err-g.ensures in
    let p = err_from_is_err_and c.from_residual.result c.from_residual.ensures.1 in
    let d : c.in_err-g.field-0.0 ≡ Line = cc (rw e.ok_part at e.value) in
    rw (p.1, p.2, d) (one-7 _ _ _ _ _ (let l = rw e.ok_part at c.gate_line.ensures in l.gate))

pub returns-then-not-has_gate : goal.returns-then-not-has_gate
returns-then-not-has_gate c =
    let l = rw c.in_ok-g.ensures.ok_part at c.gate_line.ensures in
    one-lacks _ _ _ _ _ _ l.gate (sym c.has_gate.ensures ∙ c.if-not-has_gate.true)

pub returns-then-not-operands_given : goal.returns-then-not-operands_given
returns-then-not-operands_given c =
    let l = rw c.in_ok-g.ensures.ok_part at c.gate_line.ensures in
    one-8 _ _ _ _ _ _ l.gate (sym c.has_gate.ensures ∙ c.if-not-has_gate.false)
    (sym c.operands_given.ensures ∙ c.if-not-operands_given.true)

pub returns-then-not-result_free : goal.returns-then-not-result_free
returns-then-not-result_free c =
    let l = rw c.in_ok-g.ensures.ok_part at c.gate_line.ensures in
    one-9 _ _ _ _ _ _ l.gate (sym c.has_gate.ensures ∙ c.if-not-has_gate.false)
    (sym c.operands_given.ensures ∙ c.if-not-operands_given.false) _ (said-result c.in_ok-g.g.kind _ _ _)
    (sym c.result_free.ensures ∙ c.if-not-result_free.true)

pub returns : goal.returns
returns c =
    let l = rw c.in_ok-g.ensures.ok_part at c.gate_line.ensures in
    one_on _ _ _ _ _ _ l.gate (sym c.has_gate.ensures ∙ c.if-not-has_gate.false)
    (sym c.operands_given.ensures ∙ c.if-not-operands_given.false) _ (said-result c.in_ok-g.g.kind _ _ _) _ _
    (sym c.result_free.ensures ∙ c.if-not-result_free.false) l.next c.mark.ensures
