-- `fill`: the entries of the first t tens are filled.
use Prim.Native.Nat.{◌*◌}
use Rattle.writer.specs.Packed.{Filled}
use Rattle.writer.proofs.word_table.fill.Given as goal

abbrev pub invariant-loop-t : goal.invariant-loop-t
invariant-loop-t l = Filled l.table (10 * l.t)
