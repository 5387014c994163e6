-- `ones`: the first i of ten entries are filled.
use Prim.Native.Nat.{◌+◌}
use Rattle.writer.specs.Packed.{Filled}
use Rattle.writer.proofs.word_table.ones.Given as goal

abbrev pub invariant-loop-i : goal.invariant-loop-i
invariant-loop-i l = Filled l.table (l.at + l.i)
