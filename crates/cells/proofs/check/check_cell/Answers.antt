-- `check_cell` meets its contract: the wires that are verified are those of the cell's nets.
use Rattle.std.proofs.Common.{ℕ, List, map, subst, sym, ap, ◌∙◌}
use Rattle.cells.specs.Computes.{Computes}
use Rattle.cells.specs.Netlists.{wire_at}
use Rattle.cells.proofs.check.check_cell.Goals as goal

pub returns : goal.returns
returns c so u holds =
    let nets = ap (map (wire_at c.args.wires.now)) c.deref.ensures.value in
    let wires = c.deref-2.ensures.value ∙ c.in_ok-gather.ensures ∙ nets in
    let output = λ (w : List ℕ). Computes u w c.args.cell.now.table c.wire_of.result in
    let found = subst output wires (c.in_ok-yes.ensures so u holds) in
    λ j l set. ap u (sym c.wire_of.ensures) ∙ found j l set
