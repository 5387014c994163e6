-- `swap`: the first i gates are swapped.
use Rattle.fewest.specs.Apply.{Swapped}
use Rattle.fewest.proofs.apply_choice.swap.Given as goal

abbrev pub invariant-loop-i : goal.invariant-loop-i
invariant-loop-i l = Swapped l.results l.i l.ways l.initial.operands l.operands
