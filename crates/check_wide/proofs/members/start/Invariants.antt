-- `members::start`: wire by wire.
use Rattle.check_wide.proofs.Starts.{Started}
use Rattle.check_wide.proofs.members.start.Given as goal

abbrev pub invariant-loop-w : goal.invariant-loop-w
invariant-loop-w l = Started l.inputs l.initial.set0 l.set0 l.w
