-- `call_at`: the calls made so far, of one text.
use Rattle.std.proofs.Common.{◌≡◌}
use Rattle.reader.proofs.Calling.{Calling}
use Rattle.reader.proofs.calls.call_at.Given as goal

abbrev pub invariant-loop : goal.invariant-loop
invariant-loop l = (l.reader.text ≡ l.from.text) × Calling l.from.text.now l.from.at l.index l.reader.at l.counter
