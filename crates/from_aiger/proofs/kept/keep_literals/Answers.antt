-- The lines so far are in the table.
use native.Mathlib.Omega.{arith}
use lib.ListN.{length-set}
use borrow.Author.Rules.{rules}
use Rattle.from_aiger.proofs.KeptLines.{keeping-more, keeping-no, keeping_all}
use Rattle.from_aiger.proofs.kept.keep_literals.Goals as goal

pub returns-in_err-x-clause-kept : goal.returns-in_err-x-clause-kept
returns-in_err-x-clause-kept c = rw (c.from_residual.ensures, length-set)
    (keeping-no c.loop-entry.invariant.keeping (omega arith) c.in_err-x.ensures.line)

pub loop-entry-preserved : goal.loop-entry-preserved
loop-entry-preserved c = record {
  keeping = keeping-more c.loop-entry.invariant.keeping (omega arith) (search rules) c.in_ok-x.ensures.line;
  following = search rules;
}

pub returns-clause-kept : goal.returns-clause-kept
returns-clause-kept c = keeping_all c.loop-entry.invariant.keeping (omega arith)
