-- `widths`: the first widths are written.
use Rattle.write_netlist.proofs.Headers.{spaced-more, spaced-all, wrote-width}
use Rattle.write_netlist.proofs.header.widths.Goals as goal

pub loop-w-preserved : goal.loop-w-preserved
loop-w-preserved c = spaced-more c.loop-w.invariant c.loop-w-test.true (wrote-width _ c.spaced-next.ensures)

pub returns : goal.returns
returns c = spaced-all c.loop-w.invariant c.loop-w-test.false
