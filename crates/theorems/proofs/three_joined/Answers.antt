use Rattle.theorems.proofs.Joins.{three-joined}
use Rattle.theorems.proofs.three_joined.Goals as goal

pub returns : goal.returns
returns c = three-joined
