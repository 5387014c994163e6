-- `check_cells` keeps its invariant, and at its end all cells were looked at.
use Rattle.std.proofs.Common.{ℕ, List, subst, sym}
use Rattle.std.proofs.lemmas.List.{take_all}
use Rattle.std.proofs.lemmas.List.Elements.{All-more, All-same}
use Rattle.cells.specs.Netlists.{CellHolds}
use Rattle.cells.specs.Computes.{Satisfies}
use Rattle.cells.proofs.check.check_cells.Goals as goal

pub loop-number-preserved : goal.loop-number-preserved
loop-number-preserved c u holds =
    let cell = c.index-cells-number.result in
    let gates = c.part-gates.ensures u (All-same (Satisfies u) _ _ c.deref-in-loop-number.ensures.value holds) in
    let here = c.in_ok-check_cell.ensures c.if-not-branch.false u gates in
    let over = λ (wires : List ℕ). CellHolds u wires cell in
    let now = subst over c.deref-in-loop-number-2.ensures.value here in
    let wires = c.args.built.now.wire_of.items in
    All-more (CellHolds u wires) _ c.loop-number.number cell c.loop-number-test.true
    (c.loop-number.invariant u holds) (subst (CellHolds u wires) c.index-cells-number.is now)

pub returns : goal.returns
returns c u holds =
    All-same (CellHolds u c.args.built.now.wire_of.items) _ _ (sym (take_all c.loop-number.number _ c.loop-number-test.false))
    (c.loop-number.invariant u holds)
