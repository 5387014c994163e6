-- `capi::fidrovelj_from_old`: what the conversion from the older dialect promises, and its number.
use Rattle.capi.proofs.Counts.{countable}
use native.Mathlib.Omega.{arith}
use borrow.Author.Rules.{rules}
use Rattle.capi.proofs.fidrovelj_from_old.Goals as goal

pub number-requires : goal.number-requires
number-requires c =
    countable c.from_old.ensures.answers
    (omega (arith, c.well_formed))

pub returns : goal.returns
returns c = record {
  answer = c.from_old.result;
  promise = rw c.sizes.ensures at c.from_old.ensures;
  told
      = search rules;
}
