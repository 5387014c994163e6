-- `header`: three lines and a blank one.
use Rattle.writer.proofs.Writing.{wrote_then}
use Rattle.write_netlist.proofs.header.header.Goals as goal

pub returns : goal.returns
returns c =
    wrote_then
    c.counts-second.ensures
    (wrote_then
    c.values-third.ensures
    (wrote_then c.values-blank.ensures c.put.ensures))
