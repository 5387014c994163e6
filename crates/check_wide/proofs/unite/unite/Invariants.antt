-- `unite`: number by number.
use Prim.Native.Nat.{◌+◌}
use lib.ListN.{length}
use Rattle.check_wide.proofs.Merging.{Merging}
use Rattle.check_wide.proofs.unite.unite.Given as goal

abbrev pub invariant-loop-h : goal.invariant-loop-h
invariant-loop-h l = Merging l.initial.first l.initial.second l.initial.out l.first l.second l.out l.k

abbrev pub decreases-loop-h : goal.decreases-loop-h
decreases-loop-h l = length l.first + length l.second
