-- `good`: the length, and then the range.
use Rattle.questions.specs.Range.{up_to}
use Rattle.questions.proofs.Ranges.{list-short, list-good}
use Rattle.questions.proofs.good.Goals as goal

pub returns-else-list-bits : goal.returns-else-list-bits
returns-else-list-bits c = list-short (up_to _) _ c.args.list.now c.if-list-bits.false

pub returns-then-list-bits : goal.returns-then-list-bits
returns-then-list-bits c = list-good (up_to _) _ c.args.list.now c.if-list-bits.true c.all_up_to.ensures
