-- `certify_pass::gate::row` meets its contract.
use mathlib.Core.Path.{◌≡◌}
use mathlib.Core.List.{List}
use Prim.Native.Nat.{ℕ, ◌-◌}
use Rattle.certify.specs.Pass.{PairStep}
use Rattle.certify.specs.Step.{state, row_more}
use Rattle.certify.proofs.gate.row.Given as goal

abbrev pub invariant-loop-j : goal.invariant-loop-j
invariant-loop-j l =
    PairStep l.gate l.first l.initial.records l.initial.marks l.records l.marks
    × ((h : List ℕ) → row_more (5 - l.j) l.j l.gate l.first (state l.records l.marks h)
    ≡ row_more (5 - l.from) l.from l.gate l.first (state l.initial.records l.initial.marks h))
