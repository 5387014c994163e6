-- `write_opening`: the gates of the public bits from w on are left.
use Rattle.session.proofs.Writes.{Opening}
use Rattle.session.proofs.steps.write_opening.Given as goal

abbrev pub invariant-loop-w : goal.invariant-loop-w
invariant-loop-w l = Opening l.codes l.fn.list l.w l.next l.list
