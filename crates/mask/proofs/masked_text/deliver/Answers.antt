-- `deliver`: the wires are counted, the table of words is filled where there are many, and question 14 is put.
use native.Mathlib.Omega.{arith}
use Rattle.mask.proofs.Wholes.{least-counted}
use Rattle.mask.proofs.masked_text.deliver.Goals as goal

pub overflow_sub-gate_count : goal.overflow_sub-gate_count
overflow_sub-gate_count c =
    let s = c.args.source in
    omega (arith, least-counted s.codes.now s.wanted.now c.count-wires.ensures)
