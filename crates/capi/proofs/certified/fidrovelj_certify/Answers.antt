-- `capi::certified::fidrovelj_certify`: what the certifier promises, and its number.
use borrow.Author.Rules.{rules}
use Rattle.capi.proofs.certified.fidrovelj_certify.Goals as goal

pub returns : goal.returns
returns c = record { answer = c.certify.result; promise = rw c.sizes.ensures at c.certify.ensures; told = search rules }
