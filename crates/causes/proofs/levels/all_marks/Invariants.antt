-- `levels::all_marks`: block by block.
use lib.ListN.{length}
use Rattle.gates.specs.Gates.{tables_of}
use Rattle.causes.proofs.Marking.{Marked}
use Rattle.causes.proofs.levels.all_marks.Given as goal

abbrev pub invariant-loop-block : goal.invariant-loop-block
invariant-loop-block l = Marked (tables_of l.b.gates) l.b.gates.count (length l.initial.words) l.b.paints.now
    l.b.publics l.blocks l.words l.base l.marks l.block
