-- The wires that a source gate takes.
use Prim.Native.Nat.{ℕ, ◌+◌, ◌≤◌}
use mathlib.Core.Path.{◌≡◌}
use mathlib.Core.List.{[], ◌∷◌}
use Rattle.netlist.specs.declared.Twin.{Twin}
use Rattle.masking.proofs.GateCount.{next-most}
use Rattle.gates.specs.declared.Kind.{Kind}
use Rattle.gates.specs.Kind.{gate_for}
use Rattle.mask_rule.specs.Rule.{operands, twin_of}

-- at most eight
pub twin-small : {t : Twin} (c : ℕ) (k : Kind) (A B : Twin) → t ≡ twin_of c k A B → t.wire + 1 ≤ c + 8
twin-small c k A B h = rw h (next-most (operands c A B) (gate_for k 0 1 2 ∷ []))
