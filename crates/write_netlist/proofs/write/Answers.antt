-- `write`: the header, and after it the gate lines.
use Rattle.writer.proofs.Writing.{wrote_then}
use Rattle.write_netlist.proofs.write.Goals as goal

pub returns : goal.returns
returns c = wrote_then c.header_lines-at.ensures c.gate_lines.ensures.wrote
