-- `capi::fidrovelj_join`: what Join promises, and its number.
use Rattle.capi.proofs.Counts.{countable}
use native.Mathlib.Omega.{arith}
use borrow.Author.Rules.{rules}
use Rattle.capi.proofs.fidrovelj_join.Goals as goal

pub number-requires : goal.number-requires
number-requires c =
    countable c.join.ensures.answers
    (omega (
      arith,
      c.well_formed,
    ))

pub returns : goal.returns
returns c = record { answer = c.join.result; promise = rw c.sizes.ensures at c.join.ensures; told = search rules }
