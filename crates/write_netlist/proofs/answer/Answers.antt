-- `answer`: question 14, and then the text.
use mathlib.Core.Path.{sym, ◌∙◌}
use native.Mathlib.Omega.{arith}
use Rattle.writer.proofs.Delivering.{deliver-done}
use Rattle.write_netlist.proofs.answer.Goals as goal

pub returns-then-holds : goal.returns-then-holds
returns-then-holds c = deliver-done (sym c.holds.ensures ∙ c.if-holds.true) (omega arith) c.write.ensures
