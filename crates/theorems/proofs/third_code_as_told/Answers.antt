use Rattle.theorems.proofs.CodeTables.{third-as-told}
use Rattle.theorems.proofs.third_code_as_told.Goals as goal

pub returns : goal.returns
returns c = third-as-told
