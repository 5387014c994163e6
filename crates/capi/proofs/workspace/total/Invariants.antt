-- `total`: the words of the tables so far, and those of the others.
use Rattle.std.proofs.Common.{◌≡◌, ◌+◌, ◌*◌, ◌≤◌}
use lib.ListN.{drop}
use Rattle.capi.specs.Workspace.{needed}
use Rattle.capi.proofs.workspace.total.Given as goal

abbrev pub invariant-loop-i : goal.invariant-loop-i
invariant-loop-i l = (l.sum + needed l.wires (drop l.i l.kinds) ≡ needed l.wires l.kinds) × (l.sum ≤ l.i * 13499985)
