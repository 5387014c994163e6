-- `pick`: member by member.
use Rattle.check_wide.proofs.Answers.{Picking}
use Rattle.check_wide.proofs.search.pick.Given as goal

abbrev pub invariant-loop-item : goal.invariant-loop-item
invariant-loop-item l = Picking l.item-items l.number l.items l.count l.rest l.item-index
