-- `explain_calls::fidrovelj_explain_wires`: what the service promises, and its number.
use Rattle.capi.proofs.Counts.{countable}
use native.Mathlib.Omega.{arith}
use borrow.Author.Rules.{rules}
use Rattle.capi.proofs.explain_calls.fidrovelj_explain_wires.Goals as goal

pub number-requires : goal.number-requires
number-requires c = countable c.wires.ensures.answers (omega (arith, c.well_formed))

pub returns : goal.returns
returns c = record { answer = c.wires.result; promise = rw c.sizes.ensures at c.wires.ensures; told = search rules }
