-- `first_refused`: so many lines passed.
use Rattle.std.proofs.Common.{◌-◌}
use lib.ListN.{length}
use Rattle.places.proofs.Walking.{Walking}
use Rattle.places.proofs.lines.first_refused.Given as goal

abbrev pub invariant-loop-found : goal.invariant-loop-found
invariant-loop-found l = Walking l.text l.from l.inputs l.wires l.given l.line l.at

abbrev pub decreases-loop-found : goal.decreases-loop-found
decreases-loop-found l = length l.text - l.at
