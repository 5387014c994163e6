-- `place_results`: the state has advanced by the first i gates.
use lib.ListN.{length}
use Rattle.mask_rule.specs.State.{state_of}
use Rattle.mask_rule.proofs.Advances.{Advancing}
use Rattle.gates.specs.Gates.{tables_of}
use Rattle.mask_rule.proofs.place.place_results.Given as goal

abbrev pub invariant-loop-i : goal.invariant-loop-i
invariant-loop-i l =
    Advancing (tables_of l.gates) (state_of l.wire l.initial.twin_wires l.initial.twin_codes) l.next
    (length l.initial.twin_wires)
    l.twin_wires l.twin_codes l.i
