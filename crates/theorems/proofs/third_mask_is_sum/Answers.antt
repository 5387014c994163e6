use Rattle.theorems.proofs.CodeTables.{third-is-sum}
use Rattle.theorems.proofs.third_mask_is_sum.Goals as goal

pub returns : goal.returns
returns c = third-is-sum
