-- Fields of a word added in pairs: halves of each field of k + k bits.
use mathlib.Core.Path.{◌≡◌, sym, ap, ap₂, ◌∙◌}
use Prim.Native.Nat.{ℕ, zero, suc, ◌+◌, ◌*◌, ◌-◌, ◌/◌, ◌%◌, ◌^◌, ◌<◌}
use native.Mathlib.Nat.{pow-suc, add-mul, add_comm, add_assoc, mul-zero, mul-suc, div-one, mod-lt, lt_of_lt_of_le}
use native.Mathlib.Omega.{arith}
use lib.Bits.{bit_and, and_zero_r, and_block, and_mask}
use lib.Pow.{pow_pos, pow_mono, split, high, low, shr-shr, mod-mod-pow, ones_lt}
use Rattle.netlist.specs.Eval.{bit}
use Rattle.evaluate.specs.Lane.{lane}
use Rattle.evaluate.proofs.Lanes.{bit-shr}
use Rattle.leak_search.specs.Block.{nibble, ones}

-- ones in the lower half of each of n fields
abbrev pub lowers : ℕ → ℕ → ℕ
lowers k zero = 0
lowers k (suc n) = lowers k n * 2 ^ (k + k) + (2 ^ k - 1)

-- the two halves of each field, added
abbrev pub fold : ℕ → ℕ → ℕ → ℕ
fold k n w = bit_and w (lowers k n) + bit_and (w / 2 ^ k) (lowers k n)

module _ (k : ℕ) where
  -- the lowest field apart
  lowers-step : (n w : ℕ) → bit_and w (lowers k (suc n)) ≡ bit_and (w / 2 ^ (k + k)) (lowers k n) * 2 ^ (k + k) + w % 2
      ^ k
  lowers-step n w =
      ap (λ (x : ℕ). bit_and x (lowers k (suc n))) (sym (split w (k + k)))
      ∙ and_block (k + k) (w / 2 ^ (k + k)) (lowers k n) (w % 2 ^ (k + k)) (2 ^ k - 1) (mod-lt w (pow_pos (k + k)))
      (lt_of_lt_of_le (ones_lt k) (pow_mono (omega arith)))
      ∙ ap (λ (x : ℕ). bit_and (w / 2 ^ (k + k)) (lowers k n) * 2 ^ (k + k) + x)
      (and_mask (w % 2 ^ (k + k)) k ∙ mod-mod-pow w k k)

  fold_step : (n w : ℕ) → fold k (suc n) w ≡ fold k n (w / 2 ^ (k + k)) * 2 ^ (k + k) + (w % 2 ^ k + w / 2 ^ k % 2 ^ k)
  fold_step n w =
      let e : w / 2 ^ k / 2 ^ (k + k) ≡ w / 2 ^ (k + k) / 2 ^ k
      = shr-shr w k (k + k) ∙ ap (λ (m : ℕ). w / 2 ^ m) (add_comm k (k + k)) ∙ sym (shr-shr w (k + k) k) in
      let a = bit_and (w / 2 ^ (k + k)) (lowers k n) in
      let b = bit_and (w / 2 ^ (k + k) / 2 ^ k) (lowers k n) in
      let d = add-mul a b (2 ^ (k + k)) in
      ap₂ ◌+◌ (lowers-step n w) (lowers-step n (w / 2 ^ k) ∙
      ap (λ (x : ℕ). bit_and x (lowers k n) * 2 ^ (k + k) + w / 2 ^ k % 2 ^ k) e)
      ∙ omega arith

  -- the fields above
  shift_none : (w : ℕ) → w / 2 ^ ((k + k) * 0) ≡ w
  shift_none w = ap (λ (m : ℕ). w / 2 ^ m) (mul-zero (k + k)) ∙ div-one w

  shift-more : (w s : ℕ) → w / 2 ^ ((k + k) * suc s) ≡ w / 2 ^ (k + k) / 2 ^ ((k + k) * s)
  shift-more w s = ap (λ (m : ℕ). w / 2 ^ m) (mul-suc (k + k) s ∙ add_comm ((k + k) * s) (k + k))
      ∙ sym (shr-shr w (k + k) ((k + k) * s))

  -- a field of the sum is the sum of the field's halves
  fold-field : ((x y : ℕ) → x < 2 ^ k → y < 2 ^ k → x + y < 2 ^ (k + k)) → (n w s : ℕ) → s < n
      → fold k n w / 2 ^ ((k + k) * s) % 2 ^ (k + k) ≡ w / 2 ^ ((k + k) * s) % 2 ^ k + w / 2 ^ ((k + k) * s) / 2 ^ k % 2
      ^ k
  fold-field fits zero w s l = absurd (omega arith)
  fold-field fits (suc n) w zero l =
      ap (λ (x : ℕ). x % 2 ^ (k + k)) (shift_none (fold k (suc n) w) ∙ fold_step n w)
      ∙ low (fold k n (w / 2 ^ (k + k))) (k + k) (fits (w % 2 ^ k) (w / 2 ^ k % 2 ^ k) (mod-lt w (pow_pos k))
      (mod-lt (w / 2 ^ k) (pow_pos k)))
      ∙ ap (λ (x : ℕ). x % 2 ^ k + x / 2 ^ k % 2 ^ k) (sym (shift_none w))
  fold-field fits (suc n) w (suc s) l =
      ap (λ (x : ℕ). x % 2 ^ (k + k))
      (shift-more (fold k (suc n) w) s
      ∙ ap (λ (x : ℕ). x / 2 ^ ((k + k) * s))
      (ap (λ (x : ℕ). x / 2 ^ (k + k)) (fold_step n w)
      ∙ high (fold k n (w / 2 ^ (k + k))) (k + k) (fits (w % 2 ^ k) (w / 2 ^ k % 2 ^ k) (mod-lt w (pow_pos k))
      (mod-lt (w / 2 ^ k) (pow_pos k)))))
      ∙ fold-field fits n (w / 2 ^ (k + k)) s (omega arith)
      ∙ ap (λ (x : ℕ). x % 2 ^ k + x / 2 ^ k % 2 ^ k) (sym (shift-more w s))

-- ---- the counts of a word's nibbles

-- a word is its lower lanes and twice its upper lanes
halves : (n w : ℕ) → w < 4 ^ n → w ≡ bit_and w (lowers 1 n) + 2 * bit_and (w / 2) (lowers 1 n)
halves zero w l = omega (arith, and_zero_r w, and_zero_r (w / 2))
halves (suc n) w l =
    let p = pow-suc 4 n in
    let e : w / 2 / 4 ≡ w / 4 / 2 = omega arith in
    omega (
      arith,
      lowers-step 1 n w,
      lowers-step 1 n (w / 2) ∙ ap (λ (x : ℕ). bit_and x (lowers 1 n) * 4 + w / 2 % 2) e,
      halves n (w / 4) (omega arith),
    )

-- so less its upper lanes it is the sum of both
pub pairs-law : (w : ℕ) → w < 2 ^ 64 → w - bit_and (w / 2) 0x5555_5555_5555_5555 ≡ fold 1 32 w
pairs-law w l = omega (arith, halves 32 w l)

pairs_lt : (x y : ℕ) → x < 2 ^ 1 → y < 2 ^ 1 → x + y < 2 ^ 2
pairs_lt x y p q = omega arith

nibbles-lt : (x y : ℕ) → x < 2 ^ 2 → y < 2 ^ 2 → x + y < 2 ^ 4
nibbles-lt x y p q = omega arith

module _ (w s : ℕ) (l : s < 16) where
  -- the two lanes from an even lane on
  two : (j : ℕ) → j < 64 → j % 2 ≡ 0 → fold 1 32 w / 2 ^ j % 4 ≡ bit (lane j w) + bit (lane (j + 1) w)
  two j m even =
      let e : 2 * (j / 2) ≡ j = omega arith in
      rw e at (fold-field 1 pairs_lt 32 w (j / 2) (omega arith))
      ∙ ap₂ ◌+◌ (bit-shr j w) (ap (λ (x : ℕ). x % 2) (shr-shr w j 1) ∙ bit-shr (j + 1) w)

  pub counts-law : nibble (fold 2 16 (fold 1 32 w)) s ≡ ones w s
  counts-law =
      let e : 4 * s + 2 + 1 ≡ 4 * s + 3 = omega arith in
      let d = add_assoc (bit (lane (4 * s) w) + bit (lane (4 * s + 1) w)) (bit (lane (4 * s + 2) w))
      (bit (lane (4 * s + 3) w)) in
      fold-field 2 nibbles-lt 16 (fold 1 32 w) s l
      ∙ ap₂ ◌+◌ (two (4 * s) (omega arith) (omega arith))
      (ap (λ (x : ℕ). x % 4) (shr-shr (fold 1 32 w) (4 * s) 2) ∙ two (4 * s + 2) (omega arith) (omega arith)
      ∙ ap (λ (j : ℕ). bit (lane (4 * s + 2) w) + bit (lane j w)) e)
      ∙ sym d
