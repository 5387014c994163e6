-- Words compared nibble by nibble, and the first nibble that is not zero.
use mathlib.Core.Path.{◌≡◌, refl, sym, ap, ap₂, ◌∙◌}
use mathlib.Core.Bool.{true}
use mathlib.Core.Logic.{◌≢◌, ⊎_elim}
use Prim.Native.Nat.{ℕ, zero, suc, ◌+◌, ◌*◌, ◌-◌, ◌/◌, ◌%◌, ◌^◌, ◌<◌}
use native.Mathlib.Nat.{zero-mod, zero-div, div-one, pow-suc, eq-or-lt_of_le}
use native.Mathlib.Numerals.{add-one}
use native.Mathlib.Omega.{arith}
use lib.Dec.{eqb}
use lib.Bits.{bit_and, bit_or, bit_xor, and_le_l, and_le_r, and_mask, or_add_and, xor_shr, xor_mod}
use lib.Count.{count_trailing_zeros, under, trailing_le}
use borrow.Author.Tests.{eqb-true, eq-eqb}
use lib.Pow.{shr-shr, mod-mod-pow, mod-pow-add, field}
use Rattle.netlist.specs.Lists.{below}
use Rattle.netlist.proofs.EachNumber.{below_at, same, same-below}
use Rattle.leak_search.specs.Block.{nibble}

-- two nibbles are equal where their XOR is zero
xor-zero : (x y : ℕ) → x < 16 → y < 16 → eqb (bit_xor x y) 0 ≡ eqb x y
xor-zero x y p q =
    same-below 16 (λ y. eqb (bit_xor x y) 0) (λ y. eqb x y)
    (below_at 16 (λ x. below 16 (λ y. same (eqb (bit_xor x y) 0) (eqb x y))) tt x p) y q

pub xor-nibble : (a b s : ℕ) → eqb (nibble (bit_xor a b) s) 0 ≡ eqb (nibble a s) (nibble b s)
xor-nibble a b s =
    ap (λ (x : ℕ). eqb x 0) (ap (λ (x : ℕ). x % 16) (xor_shr a b (4 * s)) ∙ xor_mod (a / 2 ^ (4 * s)) (b / 2 ^ (4 * s))
    4)
    ∙ xor-zero (nibble a s) (nibble b s) (omega arith) (omega arith)

-- what a nibble of the difference says of two counts
pub same-counts : {x a b : ℕ} → eqb x 0 ≡ eqb a b → x ≡ 0 → a ≡ b
same-counts {x} {a} {b} e z = eqb-true a b (sym e ∙ eq-eqb x 0 z)

pub no-nibble : {d : ℕ} (s : ℕ) → d ≡ 0 → nibble d s ≡ 0
no-nibble s e = ap (λ (x : ℕ). nibble x s) e ∙ ap (λ (x : ℕ). x % 16) (zero-div (2 ^ (4 * s)))

-- an OR is zero where both are
pub or-none : (a b : ℕ) → bit_or a b ≡ 0 → (a ≡ 0) × (b ≡ 0)
or-none a b e =
    let l = and_le_l a b in
    let r = and_le_r a b in
    let o = or_add_and a b in
    (omega arith, omega arith)

pub or-both : {a b : ℕ} → a ≡ 0 → b ≡ 0 → bit_or a b ≡ 0
or-both p q = ap₂ bit_or p q

-- a word whose nibbles are all zero is zero
no-nibbles : (n d : ℕ) → d < 16 ^ n → ((s : ℕ) → s < n → nibble d s ≡ 0) → d ≡ 0
no-nibbles zero d l h = omega arith
no-nibbles (suc n) d l h =
    let p = pow-suc 16 n in
    let lowest : d / 1 % 16 ≡ 0 = h 0 (omega arith) in
    let one = div-one d in
    let above : d / 16 ≡ 0 = no-nibbles n (d / 16) (omega arith) (λ s m.
    let e : 4 + 4 * s ≡ 4 * suc s = omega arith in
    ap (λ (x : ℕ). x % 16) (shr-shr d 4 (4 * s) ∙ ap (λ (m : ℕ). d / 2 ^ m) e) ∙ h (suc s) (omega arith)) in
    omega arith

pub all_same : {d : ℕ} {a b : ℕ → ℕ} → d < 2 ^ 64 → ((s : ℕ) → s < 16 → eqb (nibble d s) 0 ≡ eqb (a s) (b s))
    → ((s : ℕ) → s < 16 → a s ≡ b s) → d ≡ 0
all_same {d} {a} {b} l differ same = no-nibbles 16 d l (λ s m. eqb-true (nibble d s) 0
    (differ s m ∙ eq-eqb (a s) (b s) (same s m)))

-- a nibble in every place
repeats : (c : ℕ) → c < 16 → (s : ℕ) → s < 16 → nibble (c * 0x1111_1111_1111_1111) s ≡ c
repeats c l s m =
    eqb-true (nibble (c * 0x1111_1111_1111_1111) s) c
    (same-below 16 (λ s. eqb (nibble (c * 0x1111_1111_1111_1111) s) c) (λ s. true)
    (below_at 16 (λ c. below 16 (λ s. same (eqb (nibble (c * 0x1111_1111_1111_1111) s) c) true)) tt c l) s m)

pub repeat-law : (d s : ℕ) → s < 16 → nibble (bit_and d 15 * 0x1111_1111_1111_1111) s ≡ nibble d 0
repeat-law d s l =
    ap (λ (c : ℕ). nibble (c * 0x1111_1111_1111_1111) s) (and_mask d 4)
    ∙ repeats (d % 16) (omega arith) s l
    ∙ ap (λ (x : ℕ). x % 16) (sym (div-one d))

-- below the lowest set bit all are zero, and it is one
zeros-go : (n d t : ℕ) → n % 2 ≡ d → n / 2 % 2 ^ t ≡ 0 → n % 2 ^ under d t ≡ 0
zeros-go n zero t e h =
    ap (λ (m : ℕ). n % 2 ^ m) (sym (add-one t)) ∙ mod-pow-add n t 1 ∙ ap₂ (λ (x y : ℕ). x * 2 + y) h e
zeros-go n (suc d) t e h = omega arith

zeros-below : (k n : ℕ) → n % 2 ^ count_trailing_zeros k n ≡ 0
unfolding count_trailing_zeros
zeros-below zero n = omega arith
zeros-below (suc k) n = zeros-go n (n % 2) (count_trailing_zeros k (n / 2)) refl (zeros-below k (n / 2))

one-go : (n d t k : ℕ) → n % 2 ≡ d → (t < k → n / 2 / 2 ^ t % 2 ≡ 1) → under d t < suc k → n / 2 ^ under d t % 2 ≡ 1
one-go n zero t k e h l =
    ap (λ (x : ℕ). x % 2) (ap (λ (m : ℕ). n / 2 ^ m) (sym (one-add t)) ∙ sym (shr-shr n 1 t)) ∙ h (omega arith)
  where
    one-add : (t : ℕ) → 1 + t ≡ suc t
    one-add t = omega arith
one-go n (suc d) t k e h l = omega arith

one_at : (k n : ℕ) → count_trailing_zeros k n < k → n / 2 ^ count_trailing_zeros k n % 2 ≡ 1
unfolding count_trailing_zeros
one_at zero n l = absurd (omega arith)
one_at (suc k) n l = one-go n (n % 2) (count_trailing_zeros k (n / 2)) k refl (one_at k (n / 2)) l

-- the bits of a nibble that is zero
zero_bits : (x u : ℕ) → u < 4 → x % 16 ≡ 0 → x / 2 ^ u % 2 ≡ 1 → ⊥
zero_bits x zero l z o = omega arith
zero_bits x (suc zero) l z o = omega arith
zero_bits x (suc (suc zero)) l z o = omega arith
zero_bits x (suc (suc (suc zero))) l z o = omega arith
zero_bits x (suc (suc (suc (suc u)))) l z o = omega arith

module _ (d : ℕ) (fits : d < 2 ^ 64) (some : d ≢ 0) where
  abbrev t : ℕ
  t = count_trailing_zeros 64 d

  inside : t < 64
  inside =
      ⊎_elim (λ e. let z : d % 2 ^ 64 ≡ 0 = ap (λ (m : ℕ). d % 2 ^ m) (sym e) ∙ zeros-below 64 d in let n : d ≡ 0
      = omega arith in absurd (some n))
      (λ l. l) (eq-or-lt_of_le (trailing_le 64 d))

  pub first-law : (t / 4 < 16) × (nibble d (t / 4) ≢ 0) × ((s : ℕ) → s < t / 4 → nibble d s ≡ 0)
  first-law =
      let l = inside in (
        omega arith,
        λ z.
            let e : 4 * (t / 4) + t % 4 ≡ t = omega arith in
            zero_bits (d / 2 ^ (4 * (t / 4))) (t % 4) (omega arith) z
            (ap (λ (x : ℕ). x % 2) (shr-shr d (4 * (t / 4)) (t % 4) ∙ ap (λ (m : ℕ). d / 2 ^ m) e) ∙ one_at 64 d l),
        λ s m.
            let e : (t - (4 + 4 * s)) + (4 + 4 * s) ≡ t = omega arith in
            sym (field d 4 (4 * s))
            ∙ ap (λ (x : ℕ). x / 2 ^ (4 * s))
            (sym (mod-mod-pow d (t - (4 + 4 * s)) (4 + 4 * s)) ∙ ap (λ (m : ℕ). d % 2 ^ m % 2 ^ (4 + 4 * s)) e
            ∙ ap (λ (x : ℕ). x % 2 ^ (4 + 4 * s)) (zeros-below 64 d) ∙ zero-mod (2 ^ (4 + 4 * s)))
            ∙ zero-div (2 ^ (4 * s)),
      )
