-- The name, a colon, the two numbers with a word between them, and LF.
use Rattle.writer.proofs.Writing.{wrote_then}
use Rattle.program.proofs.report.line.Goals as goal

pub returns : goal.returns
returns c =
    wrote_then c.bytes-a.ensures
    (wrote_then c.bytes-b.ensures
    (wrote_then c.number-c.ensures (wrote_then c.bytes-d.ensures (wrote_then c.number-e.ensures c.put.ensures))))
