-- A constant, or a gate of the variable's wire.
use Prim.Native.Nat.{ℕ, ◌-◌}
use mathlib.Core.Path.{refl, ap}
use Rattle.from_aiger.proofs.Adding.{out-constant, out-plain, out-inverse}
use native.Mathlib.Omega.{arith}
use Rattle.from_aiger.proofs.and_gates.out_gate.Goals as goal

pub returns-then-literal-lt2 : goal.returns-then-literal-lt2
returns-then-literal-lt2 c = out-constant _ _ _ _ _ _ _ refl c.if-literal-lt2.true c.keep.ensures

pub overflow_sub-w : goal.overflow_sub-w
overflow_sub-w c = omega (arith, (c.entry-w.ensures 0 (λ x p. p)), c.requires.1 c.if-literal-lt2.false)

pub returns-then-literal-eq0 : goal.returns-then-literal-eq0
returns-then-literal-eq0 c =
    out-plain _ _ _ _ _ _ _ refl _ c.if-literal-lt2.false (ap (λ (z : ℕ). z - 1) (c.entry-w.ensures 0 (λ x p. p)))
    c.if-literal-eq0.true c.keep-then-literal-eq0.ensures

pub returns-else-literal-eq0 : goal.returns-else-literal-eq0
returns-else-literal-eq0 c =
    out-inverse _ _ _ _ _ _ _ refl _ c.if-literal-lt2.false (ap (λ (z : ℕ). z - 1) (c.entry-w.ensures 0 (λ x p. p)))
    c.if-literal-eq0.false c.keep-else-literal-eq0.ensures
