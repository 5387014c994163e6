-- Both entries.
use mathlib.Core.Path.{ap₂}
use Rattle.netlist.specs.Table.{tables}
use Rattle.from_verilog.proofs.put_gates.put.Goals as goal

pub returns : goal.returns
returns c =
    let e = c.pack-e.ensures in
    ap₂ tables (rw e at c.put.ensures) (rw e at c.put-2.ensures)
