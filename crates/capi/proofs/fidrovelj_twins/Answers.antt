-- `capi::fidrovelj_twins`: what the twins promise, and its number.
use Rattle.capi.proofs.Counts.{countable}
use native.Mathlib.Omega.{arith}
use borrow.Author.Rules.{rules}
use Rattle.capi.proofs.fidrovelj_twins.Goals as goal

pub number-requires : goal.number-requires
number-requires c =
    countable c.twins.ensures.answers.wires
    (omega (arith, c.well_formed))

pub returns : goal.returns
returns c = record { answer = c.twins.result; promise = rw c.sizes.ensures at c.twins.ensures; told = search rules }
