-- Choices and their numbers.
use Prim.Native.Nat.{ℕ, zero, suc, ◌+◌, ◌*◌, ◌%◌, ◌≤◌, ◌<◌}
use mathlib.Core.Path.{◌≡◌, refl, ap, ◌∙◌}
use mathlib.Core.List.{List, [], ◌∷◌}
use native.Mathlib.Nat.{mod-lt, mod-eq_of_lt, div-eq_of_lt, div-lt_iff_lt-mul, mul-add-div_right}
use native.Mathlib.Nat.{mul-add-mod_self_right, mul-le-mul, suc-mul}
use native.Mathlib.Omega.{arith}
use lib.Dec.{T, leb, leb→le}
use lib.ListN.{length, get_or}
use Rattle.netlist.specs.Lists.{every}
use Rattle.netlist.proofs.Tests.{both}
use Rattle.fewest.specs.Choice.{Choice, Takes, product, digits}

-- the choice from the second place on
abbrev pub following : Choice → Choice
following d p = d (suc p)

-- the number of a choice
abbrev pub number : List ℕ → Choice → ℕ
number [] d = 0
number (b ∷ bs) d = d 0 * product bs + number bs (following d)

pub product-positive : (bs : List ℕ) → T (every (leb 1) bs) → 1 ≤ product bs
product-positive [] t = omega arith
product-positive (b ∷ bs) t =
    let s = both (leb 1 b) (every (leb 1) bs) t in
    mul-le-mul {n₁ = 1} {m₁ = 1} (leb→le 1 b s.0) (product-positive bs s.1)

pub length_digits : (bs : List ℕ) (j : ℕ) → length (digits bs j) ≡ length bs
length_digits [] j = refl
length_digits (b ∷ bs) j = ap suc (length_digits bs (j % product bs))

-- choice number j is a choice
pub digits-take : (bs : List ℕ) → T (every (leb 1) bs) → (j : ℕ) → j < product bs
    → Takes bs (λ p. get_or (digits bs j) p 0)
digits-take [] t j h p l = absurd (omega arith)
digits-take (b ∷ bs) t j h zero l =
    let s = both (leb 1 b) (every (leb 1) bs) t in
    (div-lt_iff_lt-mul (product-positive bs s.1)).1 h
digits-take (b ∷ bs) t j h (suc p) l =
    let s = both (leb 1 b) (every (leb 1) bs) t in
    digits-take bs s.1 (j % product bs) (mod-lt j (product-positive bs s.1)) p (omega arith)

-- a first digit below b, and a rest below k, are below b times k
pub carried : (d b r k : ℕ) → d < b → r < k → d * k + r < b * k
carried d b r k h l = let m : suc d * k ≤ b * k = mul-le-mul {m₁ = k} h (omega arith) in omega (arith, suc-mul d k)

pub number-below : (bs : List ℕ) (d : Choice) → Takes bs d → number bs d < product bs
number-below [] d t = omega arith
number-below (b ∷ bs) d t =
    carried (d 0) b (number bs (following d)) (product bs) (t 0 (omega arith))
    (number-below bs (following d) (λ p h. t (suc p) (omega arith)))

-- every choice is the one of its number
pub digits_number : (bs : List ℕ) (d : Choice) → Takes bs d → (p : ℕ) → p < length bs → get_or (digits bs (number bs d))
    p 0 ≡ d p
digits_number [] d t p h = absurd (omega arith)
digits_number (b ∷ bs) d t zero h =
    let low = number-below bs (following d) (λ p h. t (suc p) (omega arith)) in
    mul-add-div_right (omega (arith, low)) (d 0) (number bs (following d)) ∙ omega (arith, div-eq_of_lt low)
digits_number (b ∷ bs) d t (suc p) h =
    let low = number-below bs (following d) (λ p h. t (suc p) (omega arith)) in
    ap (λ (j : ℕ). get_or (digits bs j) p 0) (mul-add-mod_self_right (d 0) (product bs) (number bs (following d))
    ∙ mod-eq_of_lt low)
    ∙ digits_number bs (following d) (λ p h. t (suc p) (omega arith)) p (omega arith)
