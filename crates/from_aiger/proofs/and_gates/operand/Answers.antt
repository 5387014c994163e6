-- A variable's own wire, or a gate.
use Prim.Native.Nat.{ℕ, ◌-◌, ◌%◌, ◌≤◌}
use mathlib.Core.Path.{◌≡◌, refl, ap}
use Rattle.from_aiger.proofs.Adding.{operand-plain, operand-out}
use native.Mathlib.Omega.{arith}
use Rattle.from_aiger.proofs.and_gates.operand.Goals as goal
use Rattle.from_aiger.proofs.and_gates.operand.Goals.{else-literal-ge2-via-then-literal-ge2+else-literal-eq0}
use Rattle.from_aiger.proofs.and_gates.operand.Goals.{else-literal-ge2-via-else-literal-ge2}

pub returns-then-literal-eq0 : goal.returns-then-literal-eq0
returns-then-literal-eq0 c = (
  operand-plain _ _ _ _ _ _ refl _ c.if-literal-ge2.true (ap (λ (z : ℕ). z - 1) (c.entry.ensures 0 (λ x p. p)))
      c.if-literal-eq0.true,
  omega arith,
)

pub returns : goal.returns
returns c =
    let not-own : 2 ≤ c.args.literal → c.args.literal % 2 ≡ 0 → ⊥ = elim c.else-literal-ge2.branch [
      | else-literal-ge2-via-then-literal-ge2+else-literal-eq0 w ↦ λ h e. w.if-literal-eq0.false e
      | else-literal-ge2-via-else-literal-ge2 w ↦ λ h e. absurd (omega (arith, h, w.if-literal-ge2.false))
    ] in
    (operand-out _ _ _ _ _ _ refl _ not-own c.out_gate.ensures, omega arith)
