-- A list that a loop lays over the front of a table, one store a turn.
use mathlib.Core.Path.{◌≡◌, refl, sym, ap, ap₂, ◌∙◌}
use mathlib.Core.List.{List, [], ◌∷◌, ◌++◌}
use Prim.Native.Nat.{ℕ, zero, suc, ◌+◌, ◌-◌, ◌≤◌, ◌<◌}
use native.Mathlib.Nat.{not-suc-le-zero, le_of_suc-le-suc}
use native.Mathlib.Numerals.{add-one}
use native.Mathlib.Omega.{arith}
use lib.ListN.{length, get_or, set, take, drop, replicate, length-set}
use lib.Seq.{take_all}

-- the first i of the list s are laid over d₀, what lies after them is as it was; z is the value past a list's end
pub record Laid {A : Type 0} (z : A) (s d₀ d : List A) (i : ℕ) : Type 0 where
  pub passed : i ≤ length s
  pub long : length d ≡ length d₀
  pub list : d ≡ take i s ++ drop i d₀

module _ {A : Type 0} where
  pub laid_none : (z : A) (s d : List A) → Laid z s d d 0
  laid_none z s d = record { passed = omega arith; long = refl; list = refl }

  laid-suc : (z : A) (s d : List A) (i : ℕ) → i < length s → i < length d
      → set (take i s ++ drop i d) i (get_or s i z) ≡ take (suc i) s ++ drop (suc i) d
  laid-suc z [] d i h k = absurd (not-suc-le-zero h)
  laid-suc z (x ∷ xs) [] i h k = absurd (not-suc-le-zero k)
  laid-suc z (x ∷ xs) (y ∷ ys) zero h k = refl
  laid-suc z (x ∷ xs) (y ∷ ys) (suc i) h k = ap (λ (l : List A). x ∷ l)
      (laid-suc z xs ys i (le_of_suc-le-suc h) (le_of_suc-le-suc k))

  pub laid_more : {z : A} {s d₀ d : List A} {i : ℕ} (v : A) → Laid z s d₀ d i → i < length s → i < length d → v
      ≡ get_or s i z
      → Laid z s d₀ (set d i v) (i + 1)
  laid_more {z} {s} {d₀} {d} {i} v f h k e = record {
    passed = omega arith;
    long = length-set d i v ∙ f.long;
    list =
        ap₂ (λ (u : List A) (w : A). set u i w) f.list e ∙ laid-suc z s d₀ i h (omega (arith, f.long))
        ∙ ap (λ (n : ℕ). take n s ++ drop n d₀) (sym (add-one i));
  }

  pub laid-all : {z : A} {s d₀ d : List A} {i : ℕ} → Laid z s d₀ d i → length s ≤ i → d ≡ s ++ drop (length s) d₀
  laid-all {z} {s} {d₀} {d} {i} f l =
      let e : i ≡ length s = omega (arith, f.passed) in
      f.list ∙ ap₂ (λ (u : List A) (n : ℕ). u ++ drop n d₀) (take_all i s l) e

  pub drop-replicate : (n m : ℕ) (v : A) → drop n (replicate m v) ≡ replicate (m - n) v
  drop-replicate zero m v = let e : m ≡ m - 0 = omega arith in ap (λ (k : ℕ). replicate k v) e
  drop-replicate (suc n) zero v = let e : 0 ≡ 0 - suc n = omega arith in ap (λ (k : ℕ). replicate k v) e
  drop-replicate (suc n) (suc m) v = let e : m - n ≡ suc m - suc n = omega arith in drop-replicate n m v
      ∙ ap (λ (k : ℕ). replicate k v) e
