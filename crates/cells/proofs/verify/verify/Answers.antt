-- `verify` meets its contract: what is known at the end is right.
use Rattle.std.proofs.Common.{◌≡◌, ap, ◌∙◌, IsTrue, arith}
use Rattle.std.proofs.lemmas.Bool.Decides.{nat_tests}
use Rattle.std.proofs.lemmas.List.Elements.{All-same}
use Rattle.cells.specs.Tables.{table_bit}
use Rattle.cells.specs.Verify.{Right}
use Rattle.cells.proofs.verify.verify.Goals as goal

pub returns-in-Some : goal.returns-in-Some
returns-in-Some c same u holds j l set =
    let yes : IsTrue c.in_ok-follow.field-0 = c.if-not-branch.false in
    let known = c.in_ok-follow.ensures yes u j l holds (c.in_ok-begin.ensures u j set) in
    c.in-Some.ensures u j (All-same (Right u j) _ _ c.deref.ensures.value known) ∙ ap (λ t. table_bit t j) (let e : c.in-Some.found ≡ c.args.table = grind (arith, nat_tests) in e)
