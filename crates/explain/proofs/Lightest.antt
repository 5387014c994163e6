-- The setting with the fewest ones of those whose count is not their base's.
use Rattle.std.specs.Prelude.{Option, Some, None}
use mathlib.Core.Path.{◌≡◌, refl, ap, ap₂, ◌∙◌, subst}
use mathlib.Core.Bool.{true, false, cond, not, ◌&&◌}
use mathlib.Core.Logic.{◌≢◌}
use mathlib.Core.List.{[], ◌∷◌}
use Prim.Native.Nat.{ℕ, zero, suc, ◌+◌, ◌≤◌, ◌<◌}
use native.Mathlib.Omega.{arith}
use lib.Dec.{eqb, ltb}
use borrow.Author.Tests.{eqb-true, eqb-false, ltb-true, ltb-false}
use Rattle.netlist.specs.Eval.{bit}
use Rattle.netlist.proofs.Tests.{on_bool, clash}
use Rattle.explain.specs.Counts.{settings_with, weight, lighter, lightest, witness_numbers, counts_of}

module _ (f g : ℕ → ℕ) (k : ℕ) where
  -- what it is
  abbrev pub Lightest : ℕ → Option ℕ → Type 0
  Lightest S None = (s : ℕ) → s < S → f s ≡ g s
  Lightest S (Some b) = (b < S) × (f b ≢ g b) × ((s : ℕ) → s < S → f s ≢ g s → weight k b ≤ weight k s)

  last : (S s : ℕ) → s < suc S → (s < S → ⊥) → s ≡ S
  last S s l n = on_bool (ltb s S) (λ t. absurd (n (ltb-true s S t))) (λ t. let k = ltb-false s S t in omega arith)

  -- a setting more that agrees
  same-step : (S : ℕ) (o : Option ℕ) → f S ≡ g S → Lightest S o → Lightest (suc S) o
  same-step S None e h = λ s l. on_bool (ltb s S) (λ t. h s (ltb-true s S t))
      (λ t. let k = ltb-false s S t in let q : S ≡ s = omega arith in subst (λ (n : ℕ). f n ≡ g n) q e)
  same-step S (Some b) e h =
      let l = h.0 in (
        omega arith,
        h.1,
        λ s l n. on_bool (ltb s S) (λ t. h.2 s (ltb-true s S t) n)
            (λ t. let k = ltb-false s S t in let q : S ≡ s = omega arith in
            absurd (n (subst (λ (n : ℕ). f n ≡ g n) q e))),
      )

  -- one that does not, and has fewer ones
  new-step : (S : ℕ) (o : Option ℕ) → f S ≢ g S → lighter k S o ≡ true → Lightest S o → Lightest (suc S) (Some S)
  new-step S None d w h = (
    omega arith,
    d,
    λ s l n. on_bool (ltb s S) (λ t. absurd (n (h s (ltb-true s S t))))
        (λ t. let j = ltb-false s S t in let q : S ≡ s = omega arith in
        subst (λ (n : ℕ). weight k S ≤ weight k n) q (omega arith)),
  )
  new-step S (Some b) d w h = (
    omega arith,
    d,
    λ s l n. on_bool (ltb s S)
        (λ t. let m = h.2 s (ltb-true s S t) n in let c = ltb-true (weight k S) (weight k b) w in omega arith)
        (λ t. let j = ltb-false s S t in let q : S ≡ s = omega arith in
        subst (λ (n : ℕ). weight k S ≤ weight k n) q (omega arith)),
  )

  -- or as many
  old-step : (S : ℕ) (o : Option ℕ) → lighter k S o ≡ false → Lightest S o → Lightest (suc S) o
  old-step S None w h = clash (cc)
  old-step S (Some b) w h =
      let l = h.0 in (
        omega arith,
        h.1,
        λ s l n. on_bool (ltb s S) (λ t. h.2 s (ltb-true s S t) n)
            (λ t. let j = ltb-false s S t in let q : S ≡ s = omega arith in
            let c = ltb-false (weight k S) (weight k b) w in
            subst (λ (n : ℕ). weight k b ≤ weight k n) q c),
      )

  step : (S : ℕ) (o : Option ℕ) → Lightest S o
      → Lightest (suc S) (cond (not (eqb (f S) (g S)) && lighter k S o) (Some S) o)
  step S o h = on_bool (eqb (f S) (g S))
      (λ e. rw e (same-step S o (eqb-true (f S) (g S) e) h))
      (λ e. on_bool (lighter k S o)
      (λ w. rw (e, w) (new-step S o (eqb-false (f S) (g S) e) w h))
      (λ w. rw (e, w) (old-step S o w h)))

  pub lightest-is : (S : ℕ) → Lightest S (lightest f g k S)
  lightest-is zero = λ s l. absurd (omega arith)
  lightest-is (suc S) = step S (lightest f g k S) (lightest-is S)

  pub lightest-below : (S b : ℕ) → lightest f g k S ≡ Some b → b < S
  lightest-below S b e = (subst (Lightest S) e (lightest-is S)).0

-- only the settings below S matter
pub with-same : (g h : ℕ → ℕ) (c S : ℕ) → ((s : ℕ) → s < S → g s ≡ h s) → settings_with g c S ≡ settings_with h c S
with-same g h c zero e = refl
with-same g h c (suc S) e = ap₂ (λ (a b : ℕ). a + bit (eqb b c)) (with-same g h c S (λ s l. e s (omega arith)))
    (e S (omega arith))

module _ (f g f' g' : ℕ → ℕ) (k : ℕ) where
  pub lightest-same : (S : ℕ) → ((s : ℕ) → s < S → f s ≡ f' s) → ((s : ℕ) → s < S → g s ≡ g' s)
      → lightest f g k S ≡ lightest f' g' k S
  lightest-same zero p q = refl
  lightest-same (suc S) p q =
      let i = lightest-same S (λ s l. p s (omega arith)) (λ s l. q s (omega arith)) in
      rw (p S (omega arith), q S (omega arith), i) refl

  witness-same : (S : ℕ) (o : Option ℕ) → ((s : ℕ) → s < S → f s ≡ f' s) → ((s : ℕ) → s < S → g s ≡ g' s)
      → ((b : ℕ) → o ≡ Some b → b < S) → witness_numbers f g o ≡ witness_numbers f' g' o
  witness-same S None p q h = refl
  witness-same S (Some b) p q h = ap₂ (λ (x y : ℕ). b ∷ x ∷ y ∷ []) (p b (h b refl)) (q b (h b refl))

  pub counts-same : (S : ℕ) → ((s : ℕ) → s < S → f s ≡ f' s) → ((s : ℕ) → s < S → g s ≡ g' s)
      → counts_of f g k S ≡ counts_of f' g' k S
  counts-same S p q =
      let w = witness-same S (lightest f g k S) p q (λ b e. lightest-below f g k S b e)
      ∙ ap (witness_numbers f' g') (lightest-same S p q) in
      let e : (c : ℕ) → settings_with g c S ≡ settings_with g' c S = λ c. with-same g g' c S q in
      rw (e 0, e 1, e 2, e 3, e 4, w) refl
