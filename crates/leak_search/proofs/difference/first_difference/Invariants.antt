-- `check_leak::difference::first_difference` meets its contract.
use Rattle.leak_search.specs.Block.{ones_of, nibbles_of, Agree}
use Rattle.leak_search.proofs.difference.first_difference.Given as goal

abbrev pub invariant-loop-w : goal.invariant-loop-w
invariant-loop-w l = Agree (nibbles_of l.base) (ones_of l.words) l.w 16
