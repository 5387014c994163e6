-- `mark_inputs`: the first n entries are 1, and the others 0.
use Rattle.reader.proofs.Marking.{inputs-marked}
use Rattle.reader.proofs.marks.mark_inputs.Goals as goal

pub returns : goal.returns
returns c = inputs-marked c.args.header.inputs_are_wires c.requires.0 c.requires.1 (c.fill.ensures.after (λ y e. e))
