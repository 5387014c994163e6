-- `certify_wires::marks::shows_clean` meets its contract.
use mathlib.Core.Path.{◌∙◌}
use Rattle.certify_records.specs.Made.{even_of}
use Rattle.certify.proofs.Marking.{clean-law, plain-atom}
use Rattle.certify.proofs.marks.shows_clean.Goals as goal

pub returns-clause-says : goal.returns-clause-says
returns-clause-says c = λ N codes w M K e. let m = c.args.marks.now in
    let r = c.args.known in clean-law M (c.has_equal_counts.ensures.says e)
    (plain-atom m r.first c.is_public_atom.ensures) (plain-atom m r.second c.is_public_atom-2.ensures)
    (plain-atom m r.third c.is_public_atom-3.ensures) (plain-atom m r.fourth c.is_public_atom-4.ensures) K

pub returns-clause-is : goal.returns-clause-is
returns-clause-is c =
    c.has_equal_counts.ensures.is
    ∙ (λ i. even_of c.args.known (c.is_public_atom.ensures i) (c.is_public_atom-2.ensures i)
    (c.is_public_atom-3.ensures i)
    (c.is_public_atom-4.ensures i))
