use Rattle.theorems.proofs.ReadAlike.{line-ends-alike}
use Rattle.theorems.proofs.line_ends_alike.Goals as goal

pub returns : goal.returns
returns c = line-ends-alike
