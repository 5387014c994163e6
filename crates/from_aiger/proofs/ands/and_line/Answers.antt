-- Three numbers, three tests, then the gates.
use mathlib.Core.Path.{sym, ◌∙◌}
use native.Mathlib.Omega.{arith}
use Rattle.from_aiger.proofs.Placing.{not_so}
use Rattle.from_aiger.proofs.AndLines.{and_none, and_no, and-on}
use Rattle.from_aiger.proofs.ands.and_line.Goals as goal
use Rattle.from_aiger.proofs.ands.and_line.Goals.{then-not-is_readable-via-then-not-is_readable}
use Rattle.from_aiger.proofs.ands.and_line.Goals.{then-not-is_readable-via-else-not-is_readable+then-not-is_readable-2}
use Rattle.from_aiger.proofs.ands.and_line.Goals.{
  then-not-is_readable-via-else-not-is_readable+else-not-is_readable-2+then-not-can_give,
}

pub returns-in_err-left-clause-line : goal.returns-in_err-left-clause-line
returns-in_err-left-clause-line c = rw c.from_residual.ensures
    (λ most z given wires gs l S. and_none _ given c.in_err-left.ensures.line, omega arith)

pub returns-then-not-is_readable-clause-line : goal.returns-then-not-is_readable-clause-line
returns-then-not-is_readable-clause-line c = (
  λ most z given wires gs l S. and_no c.in_ok-left.ensures.line most given (λ h. elim c.then-not-is_readable.branch [
    | then-not-is_readable-via-then-not-is_readable w ↦ not_so
        (sym w.if-not-is_readable.true ∙ c.is_readable.ensures.0 given wires S.places ∙ h.0)
    | then-not-is_readable-via-else-not-is_readable+then-not-is_readable-2 w ↦ not_so
        (sym w.if-not-is_readable-2.true ∙ w.is_readable-else-not-is_readable.ensures.0 given wires S.places ∙ h.1)
    | then-not-is_readable-via-else-not-is_readable+else-not-is_readable-2+then-not-can_give w ↦ not_so
        (sym w.if-not-can_give.true ∙ w.can_give.ensures.0 most z given wires S.places ∙ h.2)
  ]),
  omega arith,
)

pub returns-clause-line : goal.returns-clause-line
returns-clause-line c = (
  λ most z given wires gs l S. and-on c.in_ok-left.ensures.line most given (omega (arith, z)) l S
      (sym (c.is_readable.ensures.0 given wires S.places) ∙ c.if-not-is_readable.false)
      (sym (c.is_readable-else-not-is_readable.ensures.0 given wires S.places) ∙ c.if-not-is_readable-2.false)
      (sym (c.can_give.ensures.0 most z given wires S.places) ∙ c.if-not-can_give.false)
      c.and_gates-r.ensures.0 c.give.ensures,
  c.and_gates-r.ensures.1,
)
