-- The opening, the first line, and its numbers.
use mathlib.Core.Path.{◌≡◌, sym, ◌∙◌}
use Rattle.std.proofs.lemmas.Result.{err_from_is_err_and}
use Rattle.netlist.specs.declared.Refusal.TheVariants.{Aiger}
use Rattle.from_aiger.proofs.Heads.{head-not, head-taken, counts-low}
use Rattle.from_aiger.proofs.head.head.Goals as goal

pub returns-in_err-most : goal.returns-in_err-most
returns-in_err-most c =
    let o = sym c.is_opening.ensures ∙ c.if-not-is_opening.false in
    let e = c.in_err-most.ensures in
    let p = err_from_is_err_and c.from_residual.result c.from_residual.ensures.1 in
    let d : c.in_err-most.field-0.0 ≡ Aiger = cc (rw e.ok_part at e.value) in
    rw (p.1, p.2, d) (head-not c.args.limits c.args.text.now o (rw e.ok_part at c.numbers.ensures.line))

pub invariant_of-h : goal.invariant_of-h
invariant_of-h c = record { low = counts-low _ _ _ (rw c.in_ok-most.ensures.ok_part at c.numbers.ensures.line) }

pub returns : goal.returns
returns c =
    let o = sym c.is_opening.ensures ∙ c.if-not-is_opening.false in
    head-taken c.args.limits c.args.text.now o _ _ (rw c.in_ok-most.ensures.ok_part at c.numbers.ensures.following).text
    (rw c.in_ok-most.ensures.ok_part at c.numbers.ensures.line) _ c.in_ok-question.ensures
