-- `certify_records::leaf::is_same_atom` meets its contract.
use mathlib.Core.Path.{sym, ap, ◌∙◌}
use mathlib.Core.Bool.{Bool, ◌&&◌}
use lib.Dec.{eqb}
use borrow.Author.Tests.{eqb-true}
use Rattle.certify_records.proofs.Selectors.{one-atom}
use Rattle.certify_records.specs.Made.{one_atom, selector_of}
use Rattle.certify_records.proofs.leaf.is_same_atom.Goals as goal

pub returns-then-have_same_atoms-clause-says : goal.returns-then-have_same_atoms-clause-says
returns-then-have_same_atoms-clause-says c = λ e. one-atom (c.have_same_atoms.ensures.says c.if-have_same_atoms.true)
    c.selector.ensures.says c.selector-then-have_same_atoms.ensures.says (eqb-true _ _ e)

pub returns-then-have_same_atoms-clause-is : goal.returns-then-have_same_atoms-clause-is
unfolding one_atom
returns-then-have_same_atoms-clause-is c =
    let a = c.args in
    let e = sym c.have_same_atoms.ensures.is ∙ c.if-have_same_atoms.true in
    (λ i. eqb (c.selector.ensures.is i) (c.selector-then-have_same_atoms.ensures.is i))
    ∙ sym (ap (λ (b : Bool). b && eqb (selector_of a.known.table a.atom) (selector_of a.other.table a.other_atom)) e)

pub returns-else-have_same_atoms-clause-is : goal.returns-else-have_same_atoms-clause-is
unfolding one_atom
returns-else-have_same_atoms-clause-is c =
    let a = c.args in
    let e = sym c.have_same_atoms.ensures.is ∙ c.if-have_same_atoms.false in
    c.if-have_same_atoms.false
    ∙ sym (ap (λ (b : Bool). b && eqb (selector_of a.known.table a.atom) (selector_of a.other.table a.other_atom))
    e)
