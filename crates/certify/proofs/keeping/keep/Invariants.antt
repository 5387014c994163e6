-- `certify_wires::keep::keep` meets its contract.
use mathlib.Core.Path.{◌≡◌}
use Rattle.certify.proofs.Stores.{Keeping, left}
use Rattle.certify.proofs.keeping.keep.Given as goal

abbrev pub invariant-loop-k : goal.invariant-loop-k
invariant-loop-k l =
    Keeping l.wire l.initial.records l.initial.carried l.records l.carried
    × (left l.wire l.k l.records l.carried ≡ left l.wire 1 l.initial.records l.initial.carried)
