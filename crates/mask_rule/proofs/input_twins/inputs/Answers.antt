-- `inputs::inputs`: the twins of the first i inputs were laid.
use Rattle.mask_rule.proofs.Starts.{entered-more, entered_all}
use Rattle.mask_rule.proofs.input_twins.inputs.Goals as goal

pub loop-i-preserved : goal.loop-i-preserved
loop-i-preserved c =
    rw (c.put.ensures.0, c.put.ensures.1) (entered-more c.loop-i.invariant c.loop-i-test.true
    c.requires.1 c.input-t.ensures c.past-next.ensures)

pub returns : goal.returns
returns c = entered_all c.loop-i.invariant c.loop-i-test.false
