-- `fill`: the first i records were read.
use Rattle.netlist.specs.Table.{tables}
use Rattle.session.proofs.Filling.{Filled}
use Rattle.session.proofs.shown_text.fill.Given as goal

abbrev pub invariant-loop-i : goal.invariant-loop-i
invariant-loop-i l = Filled l.count l.source l.i (tables l.operands l.results)
