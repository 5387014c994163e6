-- `ample`: the digits of the wire count.
use borrow.Author.Rules.{rules}
use native.Mathlib.Omega.{arith}
use Rattle.writer.proofs.Delivering.{digits-counted}
use Rattle.writer.proofs.room.ample.Goals as goal

pub overflow_mul-longest : goal.overflow_mul-longest
overflow_mul-longest c = let d = digits-counted (omega arith) c.number.ensures.next in search rules

pub overflow_add-longest : goal.overflow_add-longest
overflow_add-longest c = let d = digits-counted (omega arith) c.number.ensures.next in search rules
