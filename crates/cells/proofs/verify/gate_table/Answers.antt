-- `gate_table` meets its contract: the tables of the operands are known.
use Rattle.std.proofs.Common.{◌&&◌, not, ap, ap₂, sym, ◌∙◌}
use Rattle.netlist.specs.Eval.{made, differs}
use Rattle.cells.proofs.verify.gate_table.Goals as goal

pub returns-in_ok-table_of-in-Xor-2 : goal.returns-in_ok-table_of-in-Xor-2
returns-in_ok-table_of-in-Xor-2 c u j l all =
    ap (made u) c.in-Xor.is
    ∙ ap₂ differs (c.in_ok-table_of-in-Xor.ensures u j all) (c.in_ok-table_of-in-Xor-2.ensures u j all)
    ∙ sym (c.sum.ensures j)

pub returns-in_ok-table_of-in-And-2 : goal.returns-in_ok-table_of-in-And-2
returns-in_ok-table_of-in-And-2 c u j l all =
    ap (made u) c.in-And.is
    ∙ ap₂ (λ x y. x && y) (c.in_ok-table_of-in-And.ensures u j all) (c.in_ok-table_of-in-And-2.ensures u j all)
    ∙ sym (c.product.ensures j)

pub returns-in_ok-table_of-in-Inv : goal.returns-in_ok-table_of-in-Inv
returns-in_ok-table_of-in-Inv c u j l all =
    ap (made u) c.in-Inv.is ∙ ap not (c.in_ok-table_of-in-Inv.ensures u j all) ∙ sym (c.inverse.ensures j l)

pub returns-in_ok-table_of-in-Eqw : goal.returns-in_ok-table_of-in-Eqw
returns-in_ok-table_of-in-Eqw c u j l all = ap (made u) c.in-Eqw.is ∙ c.in_ok-table_of-in-Eqw.ensures u j all
