-- `levels::mark`: the marks are joined one by one.
use Rattle.leak_search.specs.Block.{nibbles_of, ones_of}
use Rattle.causes.proofs.Marking.{Marking}
use Rattle.causes.proofs.levels.mark.Given as goal

abbrev pub invariant-loop-w : goal.invariant-loop-w
invariant-loop-w l = Marking (nibbles_of l.base) (ones_of l.words) l.initial.marks l.marks l.w
