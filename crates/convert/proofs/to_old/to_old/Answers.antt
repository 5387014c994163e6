-- `to_old`: the conversion.
use Rattle.convert.proofs.ToOldPromised.{promised}
use Rattle.convert.proofs.to_old.to_old.Goals as goal

pub returns : goal.returns
returns c = promised c.convert.ensures
