-- `load::chosen` meets its contract.
use borrow.Author.Tests.{ne_eqb}
use Rattle.evaluate.proofs.Lanes.{lane-zero}
use Rattle.leak_search.proofs.load.chosen.Goals as goal

pub returns-else-code-eq0 : goal.returns-else-code-eq0
returns-else-code-eq0 c j l = let p = c.if-code-eq0.false in rw (p.0, ne_eqb _ 0 p.1) (lane-zero j)
