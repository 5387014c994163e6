-- `from_old`: the conversion.
use Rattle.convert.proofs.FromOldPromised.{promised}
use Rattle.convert.proofs.from_old.from_old.Goals as goal

pub returns : goal.returns
returns c = promised c.convert.ensures
