-- The first pair that is not level, block by block.
use mathlib.Core.Path.{◌≡◌, refl, subst}
use Prim.Native.Nat.{ℕ, ◌+◌, ◌-◌, ◌<◌, ◌≤◌}
use native.Mathlib.Omega.{arith}
use lib.Dec.{ltb}
use borrow.Author.Tests.{ltb-true, ltb-false}
use Rattle.std.specs.Prelude.{Option, Some, None}
use Rattle.std.specs.Option.{MatchOption, unwrap_or, option_or}
use Rattle.netlist.proofs.Tests.{on_bool}
use Rattle.check_pairs.specs.Level.{FirstUneven}

-- pair k is not
pub uneven-some : {level : ℕ → ℕ → Type 0} {n S : ℕ} (k : ℕ) → k < n → ((j : ℕ) → j < k → (s : ℕ) → s < S → level j s)
    → (((s : ℕ) → s < S → level k s) → ⊥) → FirstUneven level n S (Some k)
uneven-some {level} {n} {S} k l h bad = record {
  before = h;
  inside = λ i e. let same : k ≡ i = cc in subst (λ (j : ℕ). j < n) same l;
  bad = λ i e. let same : k ≡ i = cc in subst (λ (j : ℕ). ((s : ℕ) → s < S → level j s) → ⊥) same bad;
}

pub pair-within : {P : ℕ → ℕ → Type 0} {n S : ℕ} (k : Option ℕ) → FirstUneven P n S k → unwrap_or k n ≤ n
pair-within None h = omega arith
pair-within {n = n} (Some k) h = let l : k < n = h.inside k refl in omega arith

-- the first of the numbers below n that is found not to be level
pub uneven-found : {P : ℕ → ℕ → Type 0} {n S : ℕ} (k : Option ℕ)
    → MatchOption k ((j : ℕ) → 0 ≤ j → j < n → (s : ℕ) → s < S → P j s)
    (λ i. (0 ≤ i) × (i < n) × (((s : ℕ) → s < S → P i s) → ⊥) × ((j : ℕ) → 0 ≤ j → j < i → (s : ℕ) → s < S → P j s))
    → FirstUneven P n S k
uneven-found None h = record { before = λ j l. h j (omega arith) l; inside = λ i e. cc; bad = λ i e. cc }
uneven-found (Some k) h = uneven-some k h.1 (λ j l. h.3 j (omega arith) l) h.2

-- by another notion of level, of the pairs below n
pub uneven-as : {P Q : ℕ → ℕ → Type 0} {n S : ℕ} {k : Option ℕ} → ((j s : ℕ) → j < n → s < S → P j s → Q j s)
    → ((j s : ℕ) → j < n → s < S → Q j s → P j s)
    → FirstUneven P n S k → FirstUneven Q n S k
uneven-as {k = k} f g h = record {
  before = λ j l s m. let w = pair-within k h in f j s (omega arith) m (h.before j l s m);
  inside = h.inside;
  bad = λ i e all. h.bad i e (λ s m. g i s (h.inside i e) m (all s m));
}

-- T settings more, from S on, looked at for pairs before the first bad one
module _ {P : ℕ → ℕ → Type 0} {n S : ℕ} {k : Option ℕ} (past : FirstUneven P n S k) where
  before-both : {T : ℕ} (m : ℕ) → m ≤ unwrap_or k n → ((j : ℕ) → j < m → (s : ℕ) → s < T → P j (S + s)) → (j : ℕ)
      → j < m → (s : ℕ) → s < S + T → P j s
  before-both m r next j l s i =
      on_bool (ltb s S) (λ t. past.before j (omega arith) s (ltb-true s S t))
      (λ t.
      let g = ltb-false s S t in
      let e : S + (s - S) ≡ s = omega arith in
      subst (P j) e (next j l (s - S) (omega arith)))

  pub uneven-more : {T : ℕ} (m : Option ℕ) → FirstUneven (λ j s. P j (S + s)) (unwrap_or k n) T m
      → FirstUneven P n (S + T) (option_or m k)
  uneven-more None next = record {
    before = before-both (unwrap_or k n) (omega arith) next.before;
    inside = past.inside;
    bad = λ i e all. past.bad i e (λ s l. all s (omega arith));
  }
  uneven-more (Some m) next =
      let l : m < unwrap_or k n = next.inside m refl in
      let w = pair-within k past in
      uneven-some m (omega arith) (before-both m (omega arith) next.before)
      (λ all. next.bad m refl (λ s i. all (S + s) (omega arith)))
