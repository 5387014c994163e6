-- One entry more, and all of them with LF.
use Rattle.std.proofs.Common.{arith}
use Rattle.writer.proofs.Writing.{exactly, few-then}
use Rattle.program.proofs.Printing.{printing-more, printing-all}
use Rattle.program.proofs.lines.digits.Goals as goal

pub loop-entry-preserved : goal.loop-entry-preserved
loop-entry-preserved c =
    let e = c.from.ensures in
    printing-more c.loop-entry.invariant c.loop-entry-test.true e
    (omega (arith, e, c.type_inv.list c.loop-entry.entry-index)) c.number-at.ensures

pub returns : goal.returns
returns c = few-then _ 1 (printing-all c.loop-entry.invariant c.loop-entry-test.false) (exactly c.put.ensures)
