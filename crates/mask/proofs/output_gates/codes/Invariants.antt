-- `mask_pass::outs::codes` meets its contract.
use Rattle.mask.proofs.OutputLines.{Picked}
use Rattle.mask.proofs.output_gates.codes.Given as goal

abbrev pub invariant-loop-i : goal.invariant-loop-i
invariant-loop-i l = Picked l.initial.res l.twin_codes l.wanted l.res l.i
