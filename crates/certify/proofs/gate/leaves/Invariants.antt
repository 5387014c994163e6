-- `certify_pass::gate::leaves` meets its contract.
use mathlib.Core.Path.{◌≡◌}
use Prim.Native.Nat.{◌-◌}
use Rattle.certify.proofs.Steps.{Stays}
use Rattle.certify.specs.Step.{state, leaves_more}
use Rattle.certify.proofs.gate.leaves.Given as goal

abbrev pub invariant-loop-k : goal.invariant-loop-k
invariant-loop-k l =
    Stays l.initial.records l.initial.marks l.records l.marks
    × (leaves_more (5 - l.k) l.k l.wire (state l.records l.marks l.hints)
    ≡ leaves_more 4 1 l.wire (state l.initial.records l.initial.marks l.initial.hints))
