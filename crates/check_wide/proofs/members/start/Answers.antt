-- `members::start`: wire by wire.
use Rattle.check_wide.proofs.Starts.{started-all, started-count}
use native.Mathlib.Omega.{arith}
use Rattle.check_wide.proofs.members.start.Goals as goal

pub returns : goal.returns
returns c =
    let h = c.loop-w.invariant in
    (started-all h (omega (arith, h.long)) c.requires, started-count h (omega (arith, h.long)) c.requires)
