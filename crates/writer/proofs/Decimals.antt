-- The digits of a number, the last ones apart, and how many there are.
use Prim.Native.Nat.{ℕ, zero, suc, ◌+◌, ◌-◌, ◌/◌, ◌%◌, ◌^◌, ◌≤◌, ◌<◌}
use mathlib.Core.Path.{◌≡◌, ap, ◌∙◌}
use mathlib.Core.Bool.{true, false}
use mathlib.Core.List.{List, [], ◌∷◌, ◌++◌, append_assoc}
use native.Mathlib.Nat.{lt_of_lt_of_le, one-le-pow, pow-suc, div-div-eq-div-mul, le-div_iff_mul-le, mul_comm}
use native.Mathlib.Omega.{arith}
use lib.Dec.{ltb, leb, lit<, lit≤}
use lib.ListN.{length, length-append}
use mir.Val.{bool_byte}
use borrow.Author.Tests.{ltb-true, ltb-false, leb-true, leb-false}
use Rattle.netlist.specs.Number.{decimal}
use Rattle.netlist.proofs.Tests.{on_bool}
use Rattle.netlist.proofs.Decimal.{low, high, decimal-of, decimal-unique, decimal-length}
use Rattle.writer.specs.Digits.{last_two, Counted}

fits : {n : ℕ} → n < 2 ^ 64 → n < 10 ^ 20
fits h = lt_of_lt_of_le h (lit≤ tt)

-- a number of one digit
pub decimal-one : (n : ℕ) → n < 10 → decimal n ≡ (48 + n) ∷ []
decimal-one n h = let k : n < 2 ^ 64 = omega arith in decimal-unique (decimal-of (fits k)) (low (omega arith))

-- the last digit apart
pub decimal-last : (n : ℕ) → n < 2 ^ 64 → 10 ≤ n → decimal n ≡ decimal (n / 10) ++ ((48 + n % 10) ∷ [])
decimal-last n l h =
    let k : n / 10 < 2 ^ 64 = omega arith in
    decimal-unique (decimal-of (fits l)) (high (omega arith) (decimal-of (fits k)))

-- a number of two digits
pub decimal-two : (n : ℕ) → 10 ≤ n → n < 100 → decimal n ≡ last_two n
decimal-two n h l =
    let e : n / 10 ≡ n / 10 % 10 = omega arith in
    decimal-last n (omega arith) h ∙ ap (λ (v : List ℕ). v ++ ((48 + n % 10) ∷ [])) (decimal-one (n / 10) (omega arith)
    ∙ (λ i. (48 + e i) ∷ []))

-- the last two digits apart
decimal-pair : (n : ℕ) → n < 2 ^ 64 → 100 ≤ n → decimal n ≡ decimal (n / 100) ++ last_two n
decimal-pair n l h =
    let e : n / 10 / 10 ≡ n / 100 = omega arith in
    decimal-last n l (omega arith)
    ∙ ap (λ (v : List ℕ). v ++ ((48 + n % 10) ∷ [])) (decimal-last (n / 10) (omega arith) (omega arith))
    ∙ append_assoc (decimal (n / 10 / 10)) ((48 + n / 10 % 10) ∷ []) ((48 + n % 10) ∷ [])
    ∙ ap (λ (q : ℕ). decimal q ++ last_two n) e

-- a number of three digits
pub decimal-three : (n : ℕ) → 100 ≤ n → n < 1000 → decimal n ≡ (48 + n / 100) ∷ last_two n
decimal-three n h l = decimal-pair n (omega arith) h ∙ ap (λ (v : List ℕ). v ++ last_two n)
    (decimal-one (n / 100) (omega arith))

-- at most k digits
pub digits-most : (k n : ℕ) → n < 2 ^ 64 → 0 < k → n < 10 ^ k → length (decimal n) ≤ k
digits-most k n l p h = decimal-length k p h (decimal-of (fits l))

-- the last k digits apart
pub digits-high : (k n : ℕ) → n < 2 ^ 64 → 10 ^ k ≤ n → length (decimal n) ≡ k + length (decimal (n / 10 ^ k))
digits-high zero n l h = let e : n ≡ n / 1 = omega arith in ap (λ (m : ℕ). length (decimal m)) e ∙ omega arith
digits-high (suc k) n l h =
    let t : 0 < 10 = lit< tt in
    let p : 1 ≤ 10 ^ k = one-le-pow k 10 t in
    let up : 10 ^ k ≤ n / 10 = (le-div_iff_mul-le t).1 (rw pow-suc at h) in
    let ih : length (decimal (n / 10)) ≡ k + length (decimal (n / 10 / 10 ^ k)) = digits-high k (n / 10) (omega arith)
    up in
    let e : n / 10 / 10 ^ k ≡ n / 10 ^ suc k = div-div-eq-div-mul n 10 (10 ^ k) ∙ rw (pow-suc, mul_comm (10 ^ k) 10) in
    ap length (decimal-last n l (omega arith)) ∙ rw (length-append, ← e) (omega arith)

-- all digits of a number of 32 bits
pub counted : {n r : ℕ} → n < 2 ^ 32 → r ≡ length (decimal n) → Counted n r
counted {n} l e = record { exact = e; few = omega (arith, digits-most 10 n (omega arith) (lit< tt) (omega arith)) }

-- 1 for a number from k on, and 0 below
unfoldable pub reaches : ℕ → ℕ → ℕ
reaches k n = 1 - (k - n)

pub reached : (n : ℕ) {r : ℕ} (k : ℕ) → r ≡ bool_byte (leb k n) → r ≡ reaches k n
unfolding reaches
reached n k e = on_bool (leb k n) (λ h. grind (arith, leb-true k n h)) (λ h. grind (arith, leb-false k n h))

-- the last digit apart, where there may be no other
digits_last : (n : ℕ) → n < 2 ^ 64 → length (decimal n) ≡ reaches 10 n + length (decimal (n / 10))
unfolding reaches
digits_last n l = on_bool (ltb n 10) alone more
  where
    alone : ltb n 10 ≡ true → length (decimal n) ≡ 1 - (10 - n) + length (decimal (n / 10))
    alone e =
        let h : n < 10 = ltb-true n 10 e in
        omega (arith, ap length (decimal-one n h), ap length (decimal-one (n / 10) (omega arith)))

    more : ltb n 10 ≡ false → length (decimal n) ≡ 1 - (10 - n) + length (decimal (n / 10))
    more e =
        let h : 10 ≤ n = ltb-false n 10 e in
        omega (arith, simp length-append at (ap length (decimal-last n l h)))

-- how many digits m has, which is n without its last ones, told by where n reaches
digits-later : (n m q k : ℕ) → m < 2 ^ 64 → m / 10 ≡ q → reaches 10 m ≡ reaches k n → length (decimal m)
    ≡ reaches k n + length (decimal q)
digits-later n m q k l e f = digits_last m l ∙ (λ i. f i + length (decimal (e i)))

reaches-later : (n : ℕ) → (reaches 10 (n / 10) ≡ reaches 100 n) × (reaches 10 (n / 100) ≡ reaches 1000 n)
    × (reaches 10 (n / 1000) ≡ reaches 10000 n)
unfolding reaches
reaches-later n = (omega arith, omega arith, omega arith)

-- at most five digits counted by comparisons
pub digits-five : (n : ℕ) → n < 100000 → 1 + reaches 10 n + reaches 100 n + reaches 1000 n + reaches 10000 n
    ≡ length (decimal n)
digits-five n h =
    let a = digits_last n (omega arith) in
    let b = digits-later n (n / 10) (n / 100) 100 (omega arith) (omega arith) (reaches-later n).0 in
    let c = digits-later n (n / 100) (n / 1000) 1000 (omega arith) (omega arith) (reaches-later n).1 in
    let d = digits-later n (n / 1000) (n / 10000) 10000 (omega arith) (omega arith) (reaches-later n).2 in
    omega (arith, a, b, c, d, ap length (decimal-one (n / 10000) (omega arith)))
