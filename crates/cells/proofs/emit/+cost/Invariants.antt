-- The measure of `cost`: the inputs left.
use Rattle.cells.proofs.emit.+cost.Given as goal

abbrev pub decreases-cost : goal.decreases-cost
decreases-cost l = l.inputs
