-- `explain_calls::fidrovelj_polynomial`: what the service promises, and its number.
use Rattle.capi.proofs.Counts.{countable}
use native.Mathlib.Omega.{arith}
use borrow.Author.Rules.{rules}
use Rattle.capi.proofs.explain_calls.fidrovelj_polynomial.Goals as goal

pub number-requires : goal.number-requires
number-requires c = countable c.polynomial.ensures.answers (omega (arith, c.well_formed))

pub returns : goal.returns
returns c = record { answer = c.polynomial.result; promise = rw c.sizes.ensures at c.polynomial.ensures; told = search rules }
