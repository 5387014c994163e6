-- `five`: a digit more for each power of ten that is reached.
use mathlib.Core.Path.{◌∙◌}
use Prim.Native.Nat.{◌+◌}
use Rattle.writer.proofs.Decimals.{digits-five, reached, counted}
use native.Mathlib.Omega.{arith}
use Rattle.writer.proofs.digits.five.Goals as goal

pub returns : goal.returns
returns c =
    let n = c.args.number in
    counted (omega arith)
    ((λ i. 1 + reached n 10 c.from.ensures i + reached n 100 c.from-2.ensures i + reached n 1000 c.from-3.ensures i +
    reached n 10000 c.from-4.ensures i)
    ∙ digits-five _ c.requires)
