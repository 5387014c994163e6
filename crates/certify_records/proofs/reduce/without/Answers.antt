-- `certify_records::reduce::without` meets its contract.
use mathlib.Core.Path.{sym, ◌∙◌}
use borrow.Author.Tests.{eqb-true}
use Rattle.certify_records.proofs.Tables.{independent-law}
use Rattle.certify_records.proofs.reduce.without.Goals as goal

pub returns-then-is_independent-clause-says : goal.returns-then-is_independent-clause-says
returns-then-is_independent-clause-says g c =
    let a = c.args in
    let e = sym c.is_independent.ensures ∙ c.if-is_independent.true in
    let s = c.requires.left_out (λ j ok l h. independent-law a.r.table a.places.up a.places.zero (eqb-true _ _ e) j ok l
    h) in
    let n = c.requires.says a.left c.last.result c.last.ensures in
    record { right = λ R. n.right (s.right R) }
