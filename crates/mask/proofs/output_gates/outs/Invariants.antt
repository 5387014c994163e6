-- `mask_pass::outs::outs` meets its contract.
use Rattle.mask.proofs.OutputLines.{Outed}
use Rattle.mask.proofs.output_gates.outs.Given as goal

abbrev pub invariant-loop-i : goal.invariant-loop-i
invariant-loop-i l = Outed l.initial.out l.at l.masks.first l.wire l.twin_wires l.twin_codes l.wanted l.out l.place l.i
