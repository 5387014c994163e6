-- `swap`: the first i gates are swapped.
use Rattle.fewest.proofs.Applying.{swapping-more}
use native.Mathlib.Omega.{arith}
use Rattle.fewest.proofs.apply_choice.swap.Goals as goal

pub loop-i-preserved : goal.loop-i-preserved
loop-i-preserved c = swapping-more c.loop-i.invariant (omega (arith, c.requires.0)) c.swapped.ensures
