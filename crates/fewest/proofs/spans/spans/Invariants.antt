-- `spans::spans`: the places from p on are done.
use Prim.Native.Nat.{◌+◌}
use lib.ListN.{length}
use Rattle.fewest.specs.Advance.{ways_at}
use Rattle.fewest.proofs.Spanning.{Spanning}
use Rattle.fewest.proofs.spans.spans.Given as goal

abbrev pub invariant-loop-p : goal.invariant-loop-p
invariant-loop-p l = Spanning (ways_at l.codes l.results) (length l.codes + length l.results) l.initial.spans l.spans
    l.p l.span
