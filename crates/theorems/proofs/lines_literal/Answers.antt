use Rattle.netlist.proofs.LineEnds.{lines-literal}
use Rattle.theorems.proofs.lines_literal.Goals as goal

pub returns : goal.returns
returns c = lines-literal
