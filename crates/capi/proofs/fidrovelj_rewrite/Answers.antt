-- `capi::fidrovelj_rewrite`: what Rewrite promises, and its number.
use Rattle.capi.proofs.Counts.{countable}
use native.Mathlib.Omega.{arith}
use borrow.Author.Rules.{rules}
use Rattle.capi.proofs.fidrovelj_rewrite.Goals as goal

pub number-requires : goal.number-requires
number-requires c =
    countable c.rewrite.ensures.answers
    (omega (arith, c.well_formed))

pub returns : goal.returns
returns c = record { answer = c.rewrite.result; promise = rw c.sizes.ensures at c.rewrite.ensures; told = search rules }
