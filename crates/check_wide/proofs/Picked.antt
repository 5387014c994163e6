-- The list of the input bits that are one in a setting of marked inputs alone.
use Prim.Native.Nat.{ℕ, suc, ◌+◌, ◌*◌, ◌/◌, ◌%◌}
use mathlib.Core.Path.{◌≡◌, refl, ap, ap₂, ◌∙◌}
use mathlib.Core.Bool.{Bool, true, false, cond}
use mathlib.Core.List.{List, [], ◌∷◌}
use native.Mathlib.Omega.{arith}
use lib.Dec.{eqb}
use lib.ListN.{length}
use Rattle.masking.specs.Leak.{setting}
use Rattle.check_wide.specs.Reach.{size, places}
use Rattle.check_wide.specs.Sets.{picked}
use Rattle.check_wide.proofs.Spread.{spread}

pub length-places : (i : ℕ) (ks : List Bool) → length (places i ks) ≡ size ks
length-places i [] = refl
length-places i (true ∷ ks) = ap suc (length-places (i + 1) ks)
length-places i (false ∷ ks) = length-places (i + 1) ks

-- the first bit of a spread setting, and the others
module _ (ks : List Bool) (t : ℕ) where
  first-marked : t % 2 ≡ (t % 2 + 2 * spread ks (t / 2)) % 2
  first-marked = let X = spread ks (t / 2) in omega arith

  rest-marked : spread ks (t / 2) ≡ (t % 2 + 2 * spread ks (t / 2)) / 2
  rest-marked = let X = spread ks (t / 2) in omega arith

  first-unmarked : 0 ≡ 2 * spread ks t % 2
  first-unmarked = let X = spread ks t in omega arith

  rest-unmarked : spread ks t ≡ 2 * spread ks t / 2
  rest-unmarked = let X = spread ks t in omega arith

places-cons : (i : ℕ) (b : Bool) (x : List Bool) → cond b (i ∷ places (i + 1) x) (places (i + 1) x) ≡ places i (b ∷ x)
places-cons i true x = refl
places-cons i false x = refl

-- the rising list of the input bits that are one
pub picked-places : (i : ℕ) (ks : List Bool) (t : ℕ) → picked (places i ks) t
    ≡ places i (setting (length ks) (spread ks t))
picked-places i [] t = refl
picked-places i (true ∷ ks) t =
    ap (λ (l : List ℕ). cond (eqb (t % 2) 1) (i ∷ l) l) (picked-places (i + 1) ks (t / 2))
    ∙ places-cons i (eqb (t % 2) 1) (setting (length ks) (spread ks (t / 2)))
    ∙ ap₂ (λ (m n : ℕ). places i (eqb m 1 ∷ setting (length ks) n)) (first-marked ks t) (rest-marked ks t)
picked-places i (false ∷ ks) t =
    picked-places (i + 1) ks t
    ∙ ap₂ (λ (m n : ℕ). places i (eqb m 1 ∷ setting (length ks) n)) (first-unmarked ks t) (rest-unmarked ks t)
