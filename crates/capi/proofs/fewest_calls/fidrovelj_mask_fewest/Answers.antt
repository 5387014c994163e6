-- `capi::fewest_calls::fidrovelj_mask_fewest`: what the service promises, and its number.
use Rattle.capi.proofs.Counts.{countable}
use native.Mathlib.Omega.{arith}
use borrow.Author.Rules.{rules}
use Rattle.capi.proofs.fewest_calls.fidrovelj_mask_fewest.Goals as goal

pub number-requires : goal.number-requires
number-requires c =
    countable c.mask_fewest.ensures.answers.text
    (omega (
      arith,
      c.well_formed.1.1.1.1.0,
    ))

pub returns : goal.returns
returns c = record {
  answer = c.mask_fewest.result;
  promise = rw c.sizes.ensures at c.mask_fewest.ensures;
  told
      = search rules;
}
