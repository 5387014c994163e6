-- `spaced`: a space, and then the number.
use Rattle.writer.proofs.Writing.{wrote_then}
use Rattle.writer.proofs.spaced.Goals as goal

pub returns : goal.returns
returns c = wrote_then c.put-next.ensures c.number.ensures
