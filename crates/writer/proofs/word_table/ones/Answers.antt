-- `ones`: the first i of ten entries are filled.
use Prim.Native.Nat.{◌+◌}
use native.Mathlib.Omega.{arith}
use Rattle.writer.proofs.Packing.{packed_lt, added-lt}
use Rattle.writer.proofs.Filling.{ten-more}
use Rattle.writer.proofs.word_table.ones.Goals as goal

pub overflow_add-table : goal.overflow_add-table
overflow_add-table c =
    let t = c.requires.1 in
    omega (arith, t.within, t.words _ c.loop-i-test.true, packed_lt (c.args.at + c.loop-i.i) (omega (arith, t.within)))

pub overflow_add-table-in-loop-i-2 : goal.overflow_add-table-in-loop-i-2
overflow_add-table-in-loop-i-2 c = omega (
  arith,
  c.requires.1.adds _ c.loop-i-test.true,
  added-lt
      (c.args.at + c.loop-i.i),
)

pub loop-i-preserved : goal.loop-i-preserved
loop-i-preserved c = ten-more c.requires.1 c.loop-i.invariant c.loop-i-test.true
