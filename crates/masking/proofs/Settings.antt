-- Input settings and their numbers.
use Prim.Native.Nat.{ℕ, zero, suc, ◌+◌, ◌*◌, ◌/◌, ◌%◌, ◌^◌, ◌<◌}
use mathlib.Core.Path.{◌≡◌, refl, sym, ap, ap₂, ◌∙◌}
use mathlib.Core.Bool.{Bool, true, false, ◌&&◌}
use mathlib.Core.List.{List, [], ◌∷◌}
use native.Mathlib.Nat.{pow-suc}
use native.Mathlib.Numerals.{add-one}
use native.Mathlib.Omega.{arith}
use lib.Dec.{eqb, lit<}
use lib.ListN.{length, get_or}
use lib.Pow.{mod-mod-pow, field}
use Rattle.masking.specs.Mask.{is_public}
use Rattle.netlist.specs.Eval.{bit}
use Rattle.masking.specs.Leak.{public_only, setting}

pub length-setting : (k s : ℕ) → length (setting k s) ≡ k
length-setting zero s = refl
length-setting (suc k) s = ap suc (length-setting k (s / 2))

-- the bits of a number beyond those that are taken do not matter
pub setting-mod : (k s : ℕ) → setting k s ≡ setting k (s % 2 ^ k)
setting-mod zero s = refl
setting-mod (suc k) s =
    let e = add-one k in
    ap₂ (λ (b : Bool) (x : List Bool). b ∷ x)
    (ap (λ (n : ℕ). eqb n 1) (sym (mod-mod-pow s k 1) ∙ ap (λ (m : ℕ). s % 2 ^ m % 2) e))
    (setting-mod k (s / 2) ∙ ap (setting k) (sym (field s k 1) ∙ ap (λ (m : ℕ). s % 2 ^ m / 2) e))

-- ---- public bits

pub length-public_only : (es : List ℕ) (x : List Bool) → length (public_only es x) ≡ length es
length-public_only [] x = refl
length-public_only (e ∷ es) [] = ap suc (length-public_only es [])
length-public_only (e ∷ es) (b ∷ x) = ap suc (length-public_only es x)

and-false : (a : Bool) → (a && false) ≡ false
and-false true = refl
and-false false = refl

and-twice : (a b : Bool) → (a && (a && b)) ≡ (a && b)
and-twice true b = refl
and-twice false b = refl

-- its own public bits are the setting's
pub public_only-twice : (es : List ℕ) (x : List Bool) → public_only es (public_only es x) ≡ public_only es x
public_only-twice [] x = refl
public_only-twice (e ∷ es) [] = ap₂ (λ (c : Bool) (y : List Bool). c ∷ y) (and-false (is_public e))
    (public_only-twice es [])
public_only-twice (e ∷ es) (b ∷ x) = ap₂ (λ (c : Bool) (y : List Bool). c ∷ y) (and-twice (is_public e) b)
    (public_only-twice es x)

-- a public bit is kept, a secret one is zero
pub public_only-at : (es : List ℕ) (x : List Bool) (w : ℕ) → w < length es → get_or (public_only es x) w false
    ≡ (is_public (get_or es w 0) && get_or x w false)
public_only-at [] x w h = absurd (omega arith)
public_only-at (e ∷ es) [] zero h = sym (and-false (is_public e))
public_only-at (e ∷ es) (b ∷ x) zero h = refl
public_only-at (e ∷ es) [] (suc w) h = public_only-at es [] w (omega arith)
public_only-at (e ∷ es) (b ∷ x) (suc w) h = public_only-at es x w (omega arith)

-- ---- every list of bits is a setting

-- its number
pub number_of : List Bool → ℕ
number_of [] = 0
number_of (b ∷ x) = bit b + 2 * number_of x

pub number_of-below : (x : List Bool) → number_of x < 2 ^ length x
unfolding number_of
number_of-below [] = lit< tt
number_of-below (b ∷ x) = let h = number_of-below x in let l = bit_below b in rw pow-suc (omega arith)
  where
    bit_below : (b : Bool) → bit b < 2
    bit_below true = lit< tt
    bit_below false = lit< tt

pub setting-number_of : (x : List Bool) → setting (length x) (number_of x) ≡ x
unfolding number_of
setting-number_of [] = refl
setting-number_of (b ∷ x) =
    ap₂ (λ (c : Bool) (y : List Bool). c ∷ y) (lowest b (number_of x)) (ap (setting (length x)) (others b (number_of x))
    ∙ setting-number_of x)
  where
    lowest : (b : Bool) (n : ℕ) → eqb ((bit b + 2 * n) % 2) 1 ≡ b
    lowest true n = let e : (1 + 2 * n) % 2 ≡ 1 = omega arith in rw e
    lowest false n = let e : (0 + 2 * n) % 2 ≡ 0 = omega arith in rw e

    others : (b : Bool) (n : ℕ) → (bit b + 2 * n) / 2 ≡ n
    others true n = omega arith
    others false n = omega arith
