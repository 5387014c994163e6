-- `low`: one digit, or two.
use Rattle.writer.proofs.Writing.{wrote_as}
use Rattle.writer.proofs.PartLines.{low-one, low-two}
use native.Mathlib.Omega.{arith}
use Rattle.writer.proofs.parts.low.Goals as goal

pub returns-then-number-lt10 : goal.returns-then-number-lt10
returns-then-number-lt10 c = (
  wrote_as (low-one _ c.if-number-lt10.true) c.store.ensures,
  omega
      (arith, c.store.ensures.next),
)

pub returns : goal.returns
returns c = (
  wrote_as (low-two _ c.if-number-lt10.false c.requires.0) c.store-2.ensures,
  omega (arith, c.store-2.ensures.next),
)
