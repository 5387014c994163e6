-- `distances::distances`: gate by gate, the last first.
use Rattle.std.proofs.Common.{◌≡◌, ◌≤◌, length}
use Rattle.netlist.specs.Table.{gates_of}
use Rattle.gates.specs.Gates.{tables_of}
use Rattle.cones.specs.Cone.{spread_gates}
use Rattle.cones.proofs.distances.distances.Given as goal

abbrev pub invariant-loop-i : goal.invariant-loop-i
invariant-loop-i l = (l.i ≤ l.gates.count) × (length l.out ≡ length l.initial.out)
    × (spread_gates l.depth l.out (gates_of (tables_of l.gates) l.i)
    ≡ spread_gates l.depth l.initial.out (gates_of (tables_of l.gates) l.gates.count))
