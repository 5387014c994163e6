use Rattle.theorems.proofs.Masked.{masked-computes}
use Rattle.theorems.proofs.masked_computes.Goals as goal

pub returns : goal.returns
returns c = masked-computes
