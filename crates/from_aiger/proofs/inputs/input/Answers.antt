-- No line of one number. Where there is one, the search finds what its number makes of the line.
use borrow.Author.Rules.{rules}
use Rattle.from_aiger.proofs.InputLines.{input_none}
use Rattle.from_aiger.proofs.inputs.input.Goals as goal

pub returns-in_err-x-clause-line : goal.returns-in_err-x-clause-line
returns-in_err-x-clause-line c = λ most z given wires P. rw c.from_residual.ensures
    (input_none _ given c.in_err-x.ensures.line)

pub returns-then-not-can_give-clause-line : goal.returns-then-not-can_give-clause-line
returns-then-not-can_give-clause-line c = λ most z given wires P. let g = c.can_give.ensures.0 most z given wires P
    in search rules

pub returns-clause-line : goal.returns-clause-line
returns-clause-line c = λ most z given wires P. let g = c.can_give.ensures.0 most z given wires P in search rules
