-- Question 19 of the lines: the search finds question 5 of the netlist made.
use mathlib.Core.Path.{◌≡◌}
use Rattle.std.proofs.lemmas.Result.{err_from_is_err_and}
use Rattle.netlist.specs.declared.Refusal.TheVariants.{Aiger}
use Rattle.from_aiger.specs.HeadAnswers.{head_said}
use Rattle.from_aiger.proofs.WholeFile.{lines-refused}
use Rattle.from_aiger.proofs.read.after_head.Goals as goal

pub returns-in_err-gates : goal.returns-in_err-gates
returns-in_err-gates c =
    let e = c.in_err-gates.ensures in
    let p = err_from_is_err_and c.from_residual.result c.from_residual.ensures.1 in
    let d : c.in_err-gates.field-0.0 ≡ Aiger = cc (rw e.ok_part at e.value) in
    let b = rw e.ok_part at c.body.ensures in
    rw (p.1, p.2, d) (lines-refused c.args.limits (head_said c.args.header) _ b.0)
