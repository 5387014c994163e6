-- `check_leak::difference::all_level` meets its contract.
use mathlib.Core.Path.{◌≡◌}
use Rattle.leak_search.specs.Block.{ones_of, nibbles_of, Agree}
use Rattle.leak_search.proofs.difference.all_level.Given as goal

abbrev pub invariant-loop-w : goal.invariant-loop-w
invariant-loop-w l = (l.d ≡ 0 → Agree (nibbles_of l.base) (ones_of l.words) l.w 16)
    × (Agree (nibbles_of l.base) (ones_of l.words) l.w 16 → l.d ≡ 0)
