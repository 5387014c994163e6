-- The wires of the nets so far.
use Rattle.std.proofs.Common.{◌≡◌, map, take}
use Rattle.cells.specs.Netlists.{wire_at}
use Rattle.cells.proofs.check.gather.Given as goal

abbrev pub invariant-loop-net : goal.invariant-loop-net
invariant-loop-net l = l.list.items ≡ map (wire_at l.wires) (take l.net-index l.nets)
