-- `capi::fidrovelj_from_aiger`: what reading an AIGER file promises, and its number.
use Rattle.capi.proofs.Counts.{countable}
use native.Mathlib.Omega.{arith}
use borrow.Author.Rules.{rules}
use Rattle.capi.proofs.fidrovelj_from_aiger.Goals as goal

pub number-requires : goal.number-requires
number-requires c =
    countable c.from_aiger.ensures.answers
    (omega (arith, c.well_formed))

pub returns : goal.returns
returns c = record {
  answer = c.from_aiger.result;
  promise = rw c.sizes.ensures at c.from_aiger.ensures;
  told
      = search rules;
}
