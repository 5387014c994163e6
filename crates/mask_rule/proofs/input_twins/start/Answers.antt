-- `inputs::start` meets its contract.
use Rattle.mask_rule.proofs.Starts.{started}
use Rattle.mask_rule.proofs.input_twins.start.Goals as goal

pub returns : goal.returns
returns c =
    started c.args.wire c.args.codes.now c.args.twin_wires.now c.args.twin_codes.now c.requires.0
    (c.fill.ensures.after (λ y p. p))
    (c.fill-2.ensures.after (λ y p. p)) c.inputs.ensures
