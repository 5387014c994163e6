-- `build_model` meets its contract: the statements hold where the cells do.
use Rattle.blif.proofs.Wiring.{statements_hold}
use Rattle.blif.proofs.read.build_model.Goals as goal

pub returns : goal.returns
returns c u holds = statements_hold u _ _ _ (c.in_ok-built.ensures.cells u holds) c.requires
