-- `mask_pass::gates::write_all` meets its contract.
use lib.ListN.{length}
use Rattle.mask_rule.specs.State.{state_of}
use Rattle.mask.proofs.States.{Emitting}
use Rattle.gates.specs.Gates.{tables_of}
use Rattle.mask.proofs.source_gates.write_all.Given as goal

abbrev pub invariant-loop-i : goal.invariant-loop-i
invariant-loop-i l =
    Emitting l.initial.out l.at l.masks.first (tables_of l.gates)
    (state_of l.wire l.initial.twin_wires l.initial.twin_codes) l.out l.place l.next (length l.initial.twin_wires)
    l.twin_wires l.twin_codes l.i
