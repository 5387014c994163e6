use Rattle.theorems.proofs.CodeTables.{after-as-told}
use Rattle.theorems.proofs.code_after_as_told.Goals as goal

pub returns : goal.returns
returns c = after-as-told
