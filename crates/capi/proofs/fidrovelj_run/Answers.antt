-- `capi::fidrovelj_run`: what Run promises, and its number.
use Rattle.capi.proofs.Counts.{countable}
use native.Mathlib.Omega.{arith}
use borrow.Author.Rules.{rules}
use Rattle.capi.proofs.fidrovelj_run.Goals as goal

pub number-requires : goal.number-requires
number-requires c =
    countable c.run.ensures.answers
    (omega (arith, c.well_formed))

pub returns : goal.returns
returns c = record { answer = c.run.result; promise = rw c.sizes.ensures at c.run.ensures; told = search rules }
