-- `counts`: two numbers.
use Rattle.writer.proofs.Writing.{wrote_then}
use Rattle.write_netlist.proofs.header.counts.Goals as goal

pub returns : goal.returns
returns c = wrote_then c.number-space.ensures (wrote_then c.spaced-end.ensures c.put.ensures)
