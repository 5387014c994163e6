-- `place_results`: the state has advanced by the first i gates.
use Rattle.mask_rule.proofs.Advances.{advancing-more}
use Rattle.mask_rule.proofs.place.place_results.Goals as goal

pub loop-i-preserved : goal.loop-i-preserved
loop-i-preserved c =
    let s = c.step-next in
    advancing-more c.loop-i.invariant s.auto.twin_wires s.auto.twin_codes
    (rw c.at.ensures at s.ensures)
