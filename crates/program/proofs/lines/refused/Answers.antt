-- The word, a space, the number and LF.
use Rattle.writer.proofs.Writing.{wrote_then}
use Rattle.program.proofs.lines.refused.Goals as goal

pub returns : goal.returns
returns c =
    let e = c.from.ensures in
    let n = rw (e, c.number.ensures) at c.number-end.ensures in
    wrote_then c.bytes-at.ensures (wrote_then n c.put.ensures)
