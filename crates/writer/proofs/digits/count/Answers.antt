-- `count`: five digits, and those before them.
use Rattle.writer.proofs.Decimals.{digits-high, counted}
use native.Mathlib.Omega.{arith}
use Rattle.writer.proofs.digits.count.Goals as goal

pub returns-else-number-lt100000 : goal.returns-else-number-lt100000
returns-else-number-lt100000 c =
    counted (omega arith)
    (omega (
      arith,
      digits-high 5 c.args.number (omega arith) c.if-number-lt100000.false,
      c.five-else-number-lt100000.ensures.exact,
    ))
