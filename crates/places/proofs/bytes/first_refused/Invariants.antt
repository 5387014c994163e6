-- `first_refused`: the bytes so far are allowed.
use Rattle.places.proofs.Scanning.{Allowed}
use Rattle.places.proofs.bytes.first_refused.Given as goal

abbrev pub invariant-loop-i : goal.invariant-loop-i
invariant-loop-i l = Allowed l.text l.i
