-- `capi::fidrovelj_mask`: what Mask promises, and its number.
use Rattle.capi.proofs.Counts.{countable}
use native.Mathlib.Omega.{arith}
use borrow.Author.Rules.{rules}
use Rattle.capi.proofs.fidrovelj_mask.Goals as goal

pub number-requires : goal.number-requires
number-requires c =
    countable c.mask.ensures.answers.text
    (omega (
      arith,
      c.well_formed,
    ))

pub returns : goal.returns
returns c = record { answer = c.mask.result; promise = rw c.sizes.ensures at c.mask.ensures; told = search rules }
