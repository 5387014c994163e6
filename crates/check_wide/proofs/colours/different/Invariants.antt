-- `different`: member by member.
use Rattle.check_wide.proofs.ColourGiving.{Telling}
use Rattle.check_wide.proofs.colours.different.Given as goal

abbrev pub invariant-loop-item : goal.invariant-loop-item
invariant-loop-item l = Telling l.item-items l.paints l.seen l.item-index
