-- `ask_lists`: questions 11 and 13 in order.
use mathlib.Core.Path.{sym, ◌∙◌}
use Rattle.mask.proofs.Promised.{mask-14, source_of, masked-formed}
use Rattle.mask.proofs.ask_lists.Goals as goal

pub returns : goal.returns
returns c =
    let codes = c.args.source.codes.now in
    let wanted = c.args.source.wanted.now in
    let p = sym c.valid_codes.ensures ∙ c.if-not-valid_codes.false in
    let q = sym c.valid_wanted.ensures ∙ c.if-not-valid_wanted.false in
    λ N a. mask-14 a codes wanted p q (c.deliver.ensures N (source_of a codes wanted p q)
    (masked-formed a codes wanted p q))
