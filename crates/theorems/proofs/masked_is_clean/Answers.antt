use Rattle.theorems.proofs.Masked.{masked-is-clean}
use Rattle.theorems.proofs.masked_is_clean.Goals as goal

pub returns : goal.returns
returns c = masked-is-clean
