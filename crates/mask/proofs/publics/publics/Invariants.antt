-- `publics::publics`: the gates of the first i inputs were written.
use Rattle.mask.proofs.PublicBits.{Opened}
use Rattle.mask.proofs.publics.publics.Given as goal

abbrev pub invariant-loop-i : goal.invariant-loop-i
invariant-loop-i l = Opened l.initial.out l.at l.masks l.wire l.codes l.out l.place l.next l.i
