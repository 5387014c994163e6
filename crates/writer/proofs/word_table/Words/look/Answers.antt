-- `look`: one entry, or that of the thousands and what the last three digits add.
use native.Mathlib.Omega.{arith}
use Rattle.writer.proofs.Packing.{packed_lt}
use Rattle.writer.proofs.Filling.{word_low, table-looks}
use Rattle.writer.proofs.word_table.Words.look.Goals as goal

pub bounds-d-number : goal.bounds-d-number
bounds-d-number c = c.requires.entry (omega arith)

pub returns-then-number-lt1000 : goal.returns-then-number-lt1000
returns-then-number-lt1000 c = word_low _ c.args.self.filled c.requires (omega arith)

pub bounds-d-number-2 : goal.bounds-d-number-2
bounds-d-number-2 c = omega (arith, c.requires.six, c.requires.thousands (omega arith))

pub bounds-d-number-3 : goal.bounds-d-number-3
bounds-d-number-3 c = omega (arith, c.requires.thousands (omega arith))

pub overflow_sub-result : goal.overflow_sub-result
overflow_sub-result c = omega (arith, (table-looks c.args.self.filled c.requires c.if-number-lt1000.false).some)

pub overflow_mul-result : goal.overflow_mul-result
overflow_mul-result c = omega (arith, (table-looks c.args.self.filled c.requires c.if-number-lt1000.false).few)

pub overflow_shl-result : goal.overflow_shl-result
overflow_shl-result c = omega (arith, (table-looks c.args.self.filled c.requires c.if-number-lt1000.false).few)

pub overflow_add-result : goal.overflow_add-result
overflow_add-result c = omega (
  arith,
  (table-looks c.args.self.filled c.requires c.if-number-lt1000.false).sum,
  packed_lt _
      c.requires.six,
)

pub overflow_add-result-2 : goal.overflow_add-result-2
overflow_add-result-2 c = omega (
  arith,
  (table-looks c.args.self.filled c.requires c.if-number-lt1000.false).sum,
  packed_lt _
      c.requires.six,
)

pub returns : goal.returns
returns c = (table-looks c.args.self.filled c.requires c.if-number-lt1000.false).sum
