-- The end comes off the first bytes.
use Rattle.program.proofs.FilesLaws.{counted-front}
use Rattle.program.proofs.lines.counted.Goals as goal

pub returns : goal.returns
returns c = counted-front _ _ _ c.first.ensures c.without_end.ensures
