-- `find`: block by block.
use lib.ListN.{length}
use Rattle.check_pairs.proofs.Finds.{Finding}
use Rattle.gates.specs.Gates.{tables_of}
use Rattle.check_pairs.proofs.search.find.Given as goal

abbrev pub invariant-loop-block : goal.invariant-loop-block
invariant-loop-block l =
    Finding (tables_of l.b.gates) l.b.gates.count (length l.initial.words) l.limit l.b.paints.now l.pairs l.b.publics
    l.blocks l.words l.bases l.base l.best l.block
