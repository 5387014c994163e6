-- The word, the four numbers and LF.
use Rattle.writer.proofs.Writing.{wrote_then}
use Rattle.program.proofs.lines.leak.Goals as goal

pub returns : goal.returns
returns c =
    wrote_then c.bytes-a.ensures
    (wrote_then c.spaced-b.ensures
    (wrote_then c.spaced-c.ensures (wrote_then c.spaced-d.ensures (wrote_then c.spaced-e.ensures c.put.ensures))))
