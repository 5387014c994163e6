-- `mask_pass::outs::outs` meets its contract.
use Rattle.mask.proofs.OutputLines.{outed-more, outed-all}
use Rattle.mask.proofs.output_gates.outs.Goals as goal

pub loop-i-preserved : goal.loop-i-preserved
loop-i-preserved c =
    let p = c.requires.as_many in
    outed-more c.loop-i.invariant
    c.loop-i-test.true p.0 p.1 c.twin-t.ensures
    c.one-place.ensures

pub returns : goal.returns
returns c = outed-all c.loop-i.invariant c.loop-i-test.false
