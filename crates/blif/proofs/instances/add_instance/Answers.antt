-- `add_instance` keeps its invariant.
use Rattle.blif.proofs.Wiring.{adds_none, adds_both}
use Rattle.blif.proofs.instances.add_instance.Goals as goal

pub loop-place-init : goal.loop-place-init
loop-place-init c = adds_none _

pub loop-place-preserved : goal.loop-place-preserved
loop-place-preserved c = adds_both _ _ _ c.loop-place.invariant c.in_ok-add_pin.ensures
