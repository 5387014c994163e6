-- Sums that loops make.
use mathlib.Core.Path.{◌≡◌, ap}
use mathlib.Core.Bool.{Bool, true, false}
use Prim.Native.Nat.{ℕ, zero, suc, ◌+◌, ◌-◌, ◌/◌, ◌%◌, ◌≤◌, ◌<◌}
use native.Mathlib.Numerals.{add-one}
use native.Mathlib.Omega.{arith}
use lib.Dec.{eqb}
use Rattle.netlist.specs.Eval.{bit}
use Rattle.explain.specs.Counts.{settings_with, weight}

pub bit-small : (b : Bool) → bit b ≤ 1
bit-small true = omega arith
bit-small false = omega arith

pub with-more : (g : ℕ → ℕ) (c S : ℕ) → settings_with g c (S + 1) ≡ settings_with g c S + bit (eqb (g S) c)
with-more g c S = ap (settings_with g c) (add-one S)

pub weight-small : (k s : ℕ) → weight k s ≤ k
weight-small zero s = omega arith
weight-small (suc k) s = let h = weight-small k (s / 2) in omega arith

pub weight-more : (k i s : ℕ) → i < k → weight (k - i) s ≡ s % 2 + weight (k - (i + 1)) (s / 2)
weight-more k i s l = let e : k - i ≡ suc (k - (i + 1)) = omega arith in ap (λ (n : ℕ). weight n s) e
