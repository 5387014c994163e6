-- The first entries are printed.
use Rattle.program.proofs.Printing.{Printing}
use Rattle.program.proofs.lines.digits.Given as goal

abbrev pub invariant-loop-entry : goal.invariant-loop-entry
invariant-loop-entry l = Printing l.initial.out l.initial.at l.list l.out l.at l.entry-index
