-- `bytes`: the first bytes are written.
use Rattle.writer.proofs.Writing.{Copied}
use Rattle.writer.proofs.bytes.Given as goal

abbrev pub invariant-loop-b : goal.invariant-loop-b
invariant-loop-b l = Copied l.initial.out l.at l.source l.out l.next l.b-index
