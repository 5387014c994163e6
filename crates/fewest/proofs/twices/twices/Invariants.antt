-- `twices::twices`: the first i gates are counted.
use Rattle.fewest.proofs.Counting.{Counting}
use Rattle.gates.specs.Gates.{tables_of}
use Rattle.fewest.proofs.twices.twices.Given as goal

abbrev pub invariant-loop-i : goal.invariant-loop-i
invariant-loop-i l = Counting (tables_of l.gates) l.i l.sum
