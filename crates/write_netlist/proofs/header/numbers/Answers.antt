-- `numbers`: the first, the others, and LF.
use Rattle.writer.proofs.Writing.{wrote_then, wrote_as}
use Rattle.write_netlist.proofs.Headers.{line-spaced}
use Rattle.write_netlist.proofs.header.numbers.Goals as goal

pub returns : goal.returns
returns c =
    wrote_as
    (line-spaced
    c.args.first
    c.args.others.now)
    (wrote_then
    c.number-space.ensures
    (wrote_then c.widths-end.ensures c.put.ensures))
