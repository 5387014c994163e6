-- `certify_pass::gate::pairs` meets its contract.
use mathlib.Core.Path.{◌≡◌}
use mathlib.Core.List.{List}
use Prim.Native.Nat.{ℕ, ◌-◌}
use Rattle.certify.specs.Pass.{GateStep}
use Rattle.certify.specs.Step.{state, pairs_more}
use Rattle.certify.proofs.gate.pairs.Given as goal

abbrev pub invariant-loop-i : goal.invariant-loop-i
invariant-loop-i l =
    GateStep l.gate l.initial.records l.initial.marks l.records l.marks
    × ((h : List ℕ) → pairs_more (5 - l.i) l.i l.gate (state l.records l.marks h)
    ≡ pairs_more 4 1 l.gate (state l.initial.records l.initial.marks h))
