-- `capi::sessions::fidrovelj_session_text`: what the text promises, and its number.
use Rattle.capi.proofs.Counts.{countable}
use native.Mathlib.Omega.{arith}
use borrow.Author.Rules.{rules}
use Rattle.capi.proofs.sessions.fidrovelj_session_text.Goals as goal

pub number-requires : goal.number-requires
number-requires c = countable c.text.ensures.answers (omega (arith, c.well_formed))

pub returns : goal.returns
returns c = record { answer = c.text.result; promise = rw c.sizes.ensures at c.text.ensures; told = search rules }
