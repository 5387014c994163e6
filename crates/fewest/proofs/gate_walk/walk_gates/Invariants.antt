-- `gates::walk_gates`: the gates from one on up to gate i are done.
use Rattle.fewest.proofs.Walking.{Walking}
use Rattle.gates.specs.Gates.{tables_of}
use Rattle.fewest.proofs.gate_walk.walk_gates.Given as goal

abbrev pub invariant-loop-i : goal.invariant-loop-i
invariant-loop-i l = Walking (tables_of l.gates) l.gates.count l.ways l.from l.initial.wire_codes l.initial.least_before
    l.wire_codes l.least_before l.i l.low
