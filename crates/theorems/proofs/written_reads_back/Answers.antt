use Rattle.theorems.proofs.Masked.{written-reads-back}
use Rattle.theorems.proofs.written_reads_back.Goals as goal

pub returns : goal.returns
returns c = written-reads-back
