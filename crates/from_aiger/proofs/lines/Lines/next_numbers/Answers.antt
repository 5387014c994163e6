-- Blank lines count for nothing.
use Rattle.from_aiger.proofs.NumberLines.{next-line}
use Rattle.from_aiger.proofs.lines.Lines.next_numbers.Goals as goal

pub returns-clause-line : goal.returns-clause-line
returns-clause-line g c = next-line _ _ _ c.to_word.ensures g.row.N c.numbers.result c.requires c.numbers.ensures.line
