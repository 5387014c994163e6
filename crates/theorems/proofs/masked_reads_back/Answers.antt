use Rattle.theorems.proofs.Masked.{masked-reads-back}
use Rattle.theorems.proofs.masked_reads_back.Goals as goal

pub returns : goal.returns
returns c = masked-reads-back
