-- `certify_records::leaf::leaf` meets its contract.
use mathlib.Core.Path.{refl, ap, ◌∙◌}
use Rattle.std.specs.Prelude.{Some}
use borrow.Author.Tests.{le-leb, lt-leb}
use Rattle.certify_records.proofs.Leaves.{leaf-right}
use Rattle.certify_records.specs.Record.{over}
use Rattle.certify_records.specs.Made.{leaf_of, leaf_from}
use native.Mathlib.Omega.{arith}
use Rattle.certify_records.proofs.leaf.leaf.Goals as goal

pub returns-clause-says : goal.returns-clause-says
returns-clause-says c = rw c.over.ensures (leaf-right c.in_ok-m.ensures.says (omega arith) c.own_atom.ensures)

pub returns-clause-is : goal.returns-clause-is
unfolding leaf_of
returns-clause-is c =
    let a = c.args in
    rw (lt-leb 268435456 a.wire (omega arith))
    (ap Some c.over.ensures ∙ ap (λ n. Some (over c.in_ok-m.table n)) c.own_atom.ensures
    ∙ ap (leaf_from a.known a.wire) c.in_ok-m.ensures.is)

pub returns-then-wire-ge-MOST_WIRES-clause-is : goal.returns-then-wire-ge-MOST_WIRES-clause-is
unfolding leaf_of
returns-then-wire-ge-MOST_WIRES-clause-is c = rw (le-leb 268435456 c.args.wire (omega arith)) refl

pub returns-in_err-m-clause-is : goal.returns-in_err-m-clause-is
unfolding leaf_of
returns-in_err-m-clause-is c =
    let a = c.args in
    rw (lt-leb 268435456 a.wire (omega arith)) (c.from_residual.ensures
    ∙ ap (leaf_from a.known a.wire) c.in_err-m.ensures.is)
