-- The lines so far are in the table.
use Rattle.from_aiger.specs.LineAnswers.{lines_left, Behind}
use Rattle.from_aiger.proofs.KeptLines.{Keeping}
use Rattle.from_aiger.proofs.kept.keep_literals.Given as goal

abbrev pub invariant-loop-entry : goal.invariant-loop-entry
invariant-loop-entry l = record {
  keeping : Keeping (lines_left l.fn.lines) l.kept l.entry-index (lines_left l.left);
  following : Behind l.fn.lines l.left;
}
