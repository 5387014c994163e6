-- The first bytes are entries, the others as they were.
use Rattle.program.proofs.FilesLaws.{Listing}
use Rattle.program.proofs.lines.lay_list.Given as goal

abbrev pub invariant-loop-b : goal.invariant-loop-b
invariant-loop-b l = Listing l.initial.b-items l.b-items l.b-index
