-- The gates of the first i literals were put.
use Rattle.from_aiger.proofs.OutGates.{Putting}
use Rattle.from_aiger.proofs.output_gates.put_outputs.Given as goal

abbrev pub invariant-loop-i : goal.invariant-loop-i
invariant-loop-i l = Putting l.table l.fn.operands l.fn.results l.room l.inputs l.count l.operands l.results l.i
