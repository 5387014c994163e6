-- `mask_pass::gates::write_all` meets its contract.
use Rattle.mask.proofs.States.{emitting-more}
use Rattle.mask.proofs.source_gates.write_all.Goals as goal

pub loop-i-preserved : goal.loop-i-preserved
loop-i-preserved c =
    let s = c.step in
    emitting-more c.loop-i.invariant
    s.auto.twin_wires s.auto.twin_codes (rw c.at.ensures at s.ensures)
