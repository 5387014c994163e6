-- `place`: where the tables that are left stand.
use Rattle.std.proofs.Common.{◌≡◌, ◌-◌, ◌*◌, ◌≤◌}
use lib.ListN.{drop}
use Rattle.capi.specs.Workspace.{place_of}
use Rattle.capi.proofs.workspace.place.Given as goal

abbrev pub invariant-loop-i : goal.invariant-loop-i
invariant-loop-i l = (place_of l.wires l.at (drop l.i l.kinds) (l.table - l.i) ≡ place_of l.wires 0 l.kinds l.table)
    × (l.at ≤ l.i * 13499985) × (l.i ≤ l.table)
