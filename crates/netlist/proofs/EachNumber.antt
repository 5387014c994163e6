-- Tests computed over all bits, or over all numbers below one.
use Prim.Native.Nat.{ℕ, zero, suc, ◌<◌}
use mathlib.Core.Path.{◌≡◌, refl}
use mathlib.Core.Bool.{Bool, true, false, not, ◌&&◌}
use native.Mathlib.Omega.{arith}
use lib.Dec.{T, eqb}
use borrow.Author.Tests.{eqb-true, eqb-false}
use Rattle.netlist.specs.Lists.{below}
use Rattle.netlist.proofs.Tests.{both, on_bool}

-- a test of both bits
abbrev pub every_bit : (Bool → Bool) → Bool
every_bit p = p false && p true

pub every_bit-at : (p : Bool → Bool) → T (every_bit p) → (b : Bool) → T (p b)
every_bit-at p t true = (both (p false) (p true) t).1
every_bit-at p t false = (both (p false) (p true) t).0

-- a test of all settings of four bits
abbrev pub every4 : (Bool → Bool → Bool → Bool → Bool) → Bool
every4 p = every_bit λ a. every_bit λ b. every_bit λ c. every_bit (p a b c)

pub every4-at : (p : Bool → Bool → Bool → Bool → Bool) → T (every4 p) → (a b c d : Bool) → T (p a b c d)
every4-at p t a b c d =
    let ta = every_bit-at (λ a. every_bit λ b. every_bit λ c. every_bit (p a b c)) t a in
    let tb = every_bit-at (λ b. every_bit λ c. every_bit (p a b c)) ta b in
    let tc = every_bit-at (λ c. every_bit (p a b c)) tb c in
    every_bit-at (p a b c) tc d

pub below_at : (k : ℕ) (p : ℕ → Bool) → T (below k p) → (i : ℕ) → i < k → T (p i)
below_at zero p t i h = absurd (omega arith)
below_at (suc k) p t i h =
    on_bool (eqb i k)
    (λ e. rw (eqb-true i k e) (both (p k) (below k p) t).0)
    (λ e. let ne : i ≡ k → ⊥ = eqb-false i k e in below_at k p (both (p k) (below k p) t).1 i (omega arith))

-- two bits are the same
abbrev pub same : Bool → Bool → Bool
same true b = b
same false b = not b

pub same-eq : (a b : Bool) → T (same a b) → a ≡ b
same-eq true true t = refl
same-eq true false t = absurd t
same-eq false true t = absurd t
same-eq false false t = refl

-- two functions that are equal at every number below k, by a computed test
pub same-below : (k : ℕ) (f g : ℕ → Bool) → T (below k (λ i. same (f i) (g i))) → (i : ℕ) → i < k → f i ≡ g i
same-below k f g t i h = same-eq (f i) (g i) (below_at k (λ i. same (f i) (g i)) t i h)
