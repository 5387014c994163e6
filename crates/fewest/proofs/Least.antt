-- The first number at which a function is least.
use Prim.Native.Nat.{ℕ, zero, suc, ◌+◌, ◌≤◌, ◌<◌}
use mathlib.Core.Path.{◌≡◌}
use mathlib.Core.Bool.{cond}
use native.Mathlib.Omega.{arith}
use lib.Dec.{ltb, eqb}
use borrow.Author.Tests.{ltb-true, ltb-false, eqb-true, eqb-false}
use Rattle.netlist.proofs.Tests.{on_bool}
use Rattle.fewest.specs.Fewest.{FirstLeast, first_least}

-- one number more
pub least_more : (f : ℕ → ℕ) (k j : ℕ) → FirstLeast f k j → FirstLeast f (suc k) (cond (ltb (f k) (f j)) k j)
least_more f k j F = on_bool (ltb (f k) (f j)) (λ e. rw e (less (ltb-true (f k) (f j) e)))
    (λ e. rw e (more (ltb-false (f k) (f j) e)))
  where
    old : (i : ℕ) → i < k → f j ≤ f i
    old = F.least

    less : f k < f j → FirstLeast f (suc k) k
    less h = record {
      below = omega arith;
      least = λ i l. on_bool (eqb i k) (λ e. rw (eqb-true i k e) (omega arith))
          (λ e. let n : i ≡ k → ⊥ = eqb-false i k e in let o = old i (omega arith) in omega arith);
      first = λ i l. let o = old i l in omega arith;
    }

    more : f j ≤ f k → FirstLeast f (suc k) j
    more h = record {
      below = let b = F.below in omega arith;
      least = λ i l. on_bool (eqb i k) (λ e. rw (eqb-true i k e) h) (λ e. let n : i ≡ k → ⊥ = eqb-false i k e
          in old i (omega arith));
      first = F.first;
    }

-- numbers that are not less may be left out
pub least_skip : {f : ℕ → ℕ} {k j : ℕ} (m : ℕ) → FirstLeast f k j → ((i : ℕ) → k ≤ i → i < k + m → f j ≤ f i)
    → FirstLeast f (k + m) j
least_skip {f} {k} {j} m F h = record {
  below = let b = F.below in omega arith;
  least = λ i l. on_bool (ltb i k) (λ e. F.least i (ltb-true i k e)) (λ e. h i (ltb-false i k e) l);
  first = F.first;
}

-- the first of some is the first of fewer, if it is among them
pub least-some : {f : ℕ → ℕ} {k j : ℕ} (i : ℕ) → FirstLeast f k j → i ≤ k → j < i → FirstLeast f i j
least-some i F h b = record { below = b; least = λ x l. F.least x (omega arith); first = F.first }

pub first_least-is : (f : ℕ → ℕ) (k : ℕ) → FirstLeast f (suc k) (first_least f k)
first_least-is f zero = record {
  below = omega arith;
  least = λ i h. let z : i ≡ 0 = omega arith in rw z (omega arith);
  first = λ i h. absurd (omega arith);
}
first_least-is f (suc k) = least_more f (suc k) (first_least f k) (first_least-is f k)

-- there is one such number only
pub least-one : {f : ℕ → ℕ} {k i j : ℕ} → FirstLeast f k i → FirstLeast f k j → i ≡ j
least-one {f} {k} {i} {j} I J =
    on_bool (ltb i j)
    (λ e. let h = ltb-true i j e in let a = J.first i h in let b = I.least j J.below in absurd (omega arith))
    (λ e. let l = ltb-false i j e in
    on_bool (ltb j i)
    (λ e. let h = ltb-true j i e in let a = I.first j h in let b = J.least i I.below in absurd (omega arith))
    (λ e. let m = ltb-false j i e in omega arith))
