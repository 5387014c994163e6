-- `inputs::inputs`: the twins of the first i inputs were laid.
use Rattle.mask_rule.proofs.Starts.{Entered}
use Rattle.mask_rule.proofs.input_twins.inputs.Given as goal

abbrev pub invariant-loop-i : goal.invariant-loop-i
invariant-loop-i l = Entered l.wire l.codes l.initial.twin_wires l.initial.twin_codes l.twin_wires l.twin_codes l.next
    l.i
