-- `next::next`: the places from p on took their last way.
use Prim.Native.Nat.{◌+◌}
use lib.ListN.{length}
use Rattle.fewest.specs.Advance.{ways_at}
use Rattle.fewest.proofs.Advancing.{Advancing}
use Rattle.fewest.proofs.next.next.Given as goal

abbrev pub invariant-loop-p : goal.invariant-loop-p
invariant-loop-p l = Advancing (ways_at l.codes l.results) (length l.codes + length l.results) l.initial.way l.way l.p
