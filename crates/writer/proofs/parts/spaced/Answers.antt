-- `spaced`: the number and a space.
use Rattle.writer.proofs.Writing.{wrote_then}
use Rattle.writer.proofs.parts.spaced.Goals as goal

pub returns : goal.returns
returns c = wrote_then c.number-space.ensures c.put.ensures
