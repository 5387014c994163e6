-- The first number of two rising lists, and what is left of them.
use Prim.Native.Nat.{ℕ, suc, ◌-◌, ◌<◌}
use mathlib.Core.Path.{◌≡◌, refl, sym, ap, ◌∙◌}
use mathlib.Core.List.{List, [], ◌∷◌}
use native.Mathlib.Omega.{arith}
use lib.ListN.{length, get_or, take, drop}
use borrow.Author.Tests.{lt-ltb, le-ltb}
use Rattle.check_wide.proofs.Merges.{merge_none}
use Rattle.check_wide.specs.declared.unite.Head.{Head}
use Rattle.check_wide.specs.Together.{Next}

-- a list without its first number
abbrev pub rest : List ℕ → List ℕ
rest x = take (length x - 1) (drop 1 x)

take-whole : (x : List ℕ) → take (length x) x ≡ x
take-whole [] = refl
take-whole (p ∷ x) = ap (λ (l : List ℕ). p ∷ l) (take-whole x)

rest-is : (p : ℕ) (x : List ℕ) → rest (p ∷ x) ≡ x
rest-is p x = let e : length (p ∷ x) - 1 ≡ length x = omega arith in ap (λ (k : ℕ). take k x) e ∙ take-whole x

module _ (h : Head) where
  -- the first list's first number is it, where the second has none or a higher one
  pub next-first : (x y : List ℕ) → 0 < length x → (0 < length y → get_or x 0 0 < get_or y 0 0) → h.value ≡ get_or x 0 0
      → h.first.now ≡ rest x
      → h.second.now ≡ y → Next x y h
  next-first [] y l b v d e = absurd (omega arith)
  next-first (p ∷ x) [] l b v d e = record {
    shorter = let n = ap length (d ∙ rest-is p x) in let m = ap length e in omega (arith, n, m);
    value_small = λ s t. let q = s 0 in omega (arith, q, v);
    left_small = λ s. rw (d ∙ rest-is p x) (λ i. s (suc i));
    right_small = λ s. rw e s;
    value = rw (v, d ∙ rest-is p x, e) (ap (λ (l : List ℕ). p ∷ l) (sym (merge_none x)));
  }
  next-first (p ∷ x) (q ∷ y) l b v d e = record {
    shorter = let n = ap length (d ∙ rest-is p x) in let m = ap length e in omega (arith, n, m);
    value_small = λ s t. let z = s 0 in omega (arith, z, v);
    left_small = λ s. rw (d ∙ rest-is p x) (λ i. s (suc i));
    right_small = λ s. rw e s;
    value = rw (v, d ∙ rest-is p x, e, lt-ltb p q (b (omega arith))) refl;
  }

  -- the second's
  pub next-second : (x y : List ℕ) → 0 < length y → (0 < length x → get_or y 0 0 < get_or x 0 0) → h.value
      ≡ get_or y 0 0 → h.first.now ≡ x
      → h.second.now ≡ rest y → Next x y h
  next-second x [] l b v d e = absurd (omega arith)
  next-second [] (q ∷ y) l b v d e = record {
    shorter = let m = ap length (e ∙ rest-is q y) in let n = ap length d in omega (arith, n, m);
    value_small = λ s t. let z = t 0 in omega (arith, z, v);
    left_small = λ s. rw d s;
    right_small = λ s. rw (e ∙ rest-is q y) (λ i. s (suc i));
    value = rw (v, d, e ∙ rest-is q y) refl;
  }
  next-second (p ∷ x) (q ∷ y) l b v d e = record {
    shorter = let m = ap length (e ∙ rest-is q y) in let n = ap length d in omega (arith, n, m);
    value_small = λ s t. let z = t 0 in omega (arith, z, v);
    left_small = λ s. rw d s;
    right_small = λ s. rw (e ∙ rest-is q y) (λ i. s (suc i));
    value = let k = b (omega arith) in rw (v, d, e ∙ rest-is q y, le-ltb p q (omega arith), lt-ltb q p k) refl;
  }

  -- both have it
  pub next-both : (x y : List ℕ) → 0 < length x → 0 < length y → get_or x 0 0 ≡ get_or y 0 0 → h.value ≡ get_or x 0 0
      → h.first.now ≡ rest x
      → h.second.now ≡ rest y → Next x y h
  next-both [] y l m b v d e = absurd (omega arith)
  next-both (p ∷ x) [] l m b v d e = absurd (omega arith)
  next-both (p ∷ x) (q ∷ y) l m b v d e = record {
    shorter = let n = ap length (d ∙ rest-is p x) in let k = ap length (e ∙ rest-is q y) in omega (arith, n, k);
    value_small = λ s t. let z = s 0 in omega (arith, z, v);
    left_small = λ s. rw (d ∙ rest-is p x) (λ i. s (suc i));
    right_small = λ s. rw (e ∙ rest-is q y) (λ i. s (suc i));
    value = rw (v, d ∙ rest-is p x, e ∙ rest-is q y, le-ltb p q (omega arith), le-ltb q p (omega arith)) refl;
  }
