-- `capi::fidrovelj_to_old`: what the conversion to the older dialect promises, and its number.
use Rattle.capi.proofs.Counts.{countable}
use native.Mathlib.Omega.{arith}
use borrow.Author.Rules.{rules}
use Rattle.capi.proofs.fidrovelj_to_old.Goals as goal

pub number-requires : goal.number-requires
number-requires c =
    countable c.to_old.ensures.answers
    (omega (arith, c.well_formed))

pub returns : goal.returns
returns c = record { answer = c.to_old.result; promise = rw c.sizes.ensures at c.to_old.ensures; told = search rules }
