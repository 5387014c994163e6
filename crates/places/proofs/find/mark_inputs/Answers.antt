-- `mark_inputs`: the first entries are 1, and the others 0.
use Rattle.reader.proofs.Marking.{inputs-marked}
use Rattle.places.proofs.find.mark_inputs.Goals as goal

pub returns : goal.returns
returns c = λ W l h. inputs-marked l h c.requires.1 (c.fill.ensures.after (λ y e. e))
