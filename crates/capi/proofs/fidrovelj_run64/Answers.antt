-- `capi::fidrovelj_run64`: what sixty-four runs promise, and its number.
use Rattle.capi.proofs.Counts.{countable}
use native.Mathlib.Omega.{arith}
use borrow.Author.Rules.{rules}
use Rattle.capi.proofs.fidrovelj_run64.Goals as goal

pub number-requires : goal.number-requires
number-requires c =
    countable c.run64.ensures.answers
    (omega (arith, c.well_formed))

pub returns : goal.returns
returns c = record { answer = c.run64.result; promise = rw c.sizes.ensures at c.run64.ensures; told = search rules }
