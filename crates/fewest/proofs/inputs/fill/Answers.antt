-- `inputs::fill`: the first i inputs are filled.
use Rattle.fewest.proofs.Filling.{filling-more}
use native.Mathlib.Omega.{arith}
use Rattle.fewest.proofs.inputs.fill.Goals as goal

pub loop-i-preserved : goal.loop-i-preserved
loop-i-preserved g c = λ f h. filling-more (c.loop-i.invariant f h) (omega arith) (h _ _ _ c.code.ensures)
