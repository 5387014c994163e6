-- `rewrite`: the conversion.
use Rattle.convert.proofs.RewritePromised.{promised}
use Rattle.convert.proofs.rewrite.rewrite.Goals as goal

pub returns : goal.returns
returns c = promised c.convert.ensures
