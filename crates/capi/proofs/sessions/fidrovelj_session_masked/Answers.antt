-- `capi::sessions::fidrovelj_session_masked`: what Mask promises of the session's text, and its number.
use Rattle.capi.proofs.Counts.{countable}
use native.Mathlib.Omega.{arith}
use borrow.Author.Rules.{rules}
use Rattle.capi.proofs.sessions.fidrovelj_session_masked.Goals as goal

pub number-requires : goal.number-requires
number-requires c = countable c.masked.ensures.answers.text (omega (arith, c.well_formed))

pub returns : goal.returns
returns c = record { answer = c.masked.result; promise = rw c.sizes.ensures at c.masked.ensures; told = search rules }
