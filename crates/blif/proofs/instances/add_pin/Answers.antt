-- `add_pin` meets its contract: it adds no cell or one.
use Rattle.blif.proofs.Wiring.{adds_none, adds_one}
use Rattle.blif.proofs.instances.add_pin.Goals as goal

pub returns-in_default : goal.returns-in_default
returns-in_default c = adds_none _

pub returns : goal.returns
returns c = adds_one _ _ _ c.in_ok-push-2.ensures.items
