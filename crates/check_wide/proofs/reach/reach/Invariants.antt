-- `reach::reach`: line by line.
use lib.ListN.{length}
use Rattle.check_wide.specs.Packed.{sets}
use Rattle.check_wide.proofs.Reaching.{Reaching}
use Rattle.gates.specs.Gates.{tables_of}
use Rattle.check_wide.proofs.reach.reach.Given as goal

abbrev pub invariant-loop-i : goal.invariant-loop-i
invariant-loop-i l =
    Reaching (tables_of l.gates) l.gates.count (length l.initial.set1) l.inputs
    (sets l.set0 l.set1 l.set2 l.set3) l.i
