use Rattle.theorems.proofs.Wide.{wide-agrees}
use Rattle.theorems.proofs.wide_agrees.Goals as goal

pub returns : goal.returns
returns c = wide-agrees
