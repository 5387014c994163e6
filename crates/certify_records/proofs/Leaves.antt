-- A table of two nibbles by the bit that tells them apart.
use mathlib.Core.Path.{◌≡◌, refl, sym, ap, ap₂, ◌∙◌}
use mathlib.Core.Bool.{Bool, true, false, ◌&&◌}
use Prim.Native.Nat.{ℕ, zero, suc, ◌+◌, ◌*◌, ◌/◌, ◌%◌, ◌^◌, ◌≤◌, ◌<◌}
use native.Mathlib.Nat.{div-one}
use native.Mathlib.Omega.{arith}
use lib.Bits.{bit_and, bit_xor}
use lib.Pow.{shr-shr}
use Rattle.netlist.specs.Eval.{differs, bit}
use Rattle.netlist.specs.Lists.{below}
use Rattle.netlist.proofs.EachNumber.{below_at, same, same-below}
use Rattle.evaluate.specs.Lane.{lane, word}
use Rattle.evaluate.proofs.Lanes.{lane_and, lane_xor}
use Rattle.evaluate.proofs.Words.{word_same, word-known}
use mathlib.Core.Logic.{◌≢◌}
use lib.Count.{count_trailing_zeros}
use borrow.Author.Tests.{eq-eqb, ne_eqb}
use Rattle.std.specs.Prelude.{None, Some}
use Rattle.certify_records.specs.Made.{repeated, chosen_at, chosen_by}
use Rattle.leak_search.specs.Block.{nibble}
use Rattle.leak_search.proofs.Numbers.{lane-shift}
use Rattle.certify_records.specs.declared.Record.{Record}
use Rattle.certify_records.specs.Record.{no_atom, over}
use Rattle.certify_records.specs.Leaf.{Decides, LeafIs}
use Rattle.certify_records.proofs.Tables.{lane-mod, and_no, and_yes}
use Rattle.certify_records.proofs.Places.{nibble-word, nibble-lane, setting-below}
use Rattle.certify_records.proofs.Evens.{setting_of, shown}

-- the lowest nibble in every place
module _ (r d : ℕ) (repeated : (s : ℕ) → s < 16 → nibble r s ≡ nibble d 0) where
  repeat-lane : (s i : ℕ) → s < 16 → i < 4 → lane (i + 4 * s) r ≡ lane i d
  repeat-lane s i p q =
      let e : i + 4 * 0 ≡ i = omega arith in
      sym (nibble-lane r s i q) ∙ ap (lane i) (repeated s p) ∙ nibble-lane d 0 i q ∙ ap (λ (k : ℕ). lane k d) e

-- which is one word
lanes-repeated : (k : ℕ) → k < 16 → (l : ℕ) → l < 64 → lane l (k * 0x1111_1111_1111_1111) ≡ lane (l % 4) k
lanes-repeated k h l q =
    same-below 64 (λ l. lane l (k * 0x1111_1111_1111_1111)) (λ l. lane (l % 4) k)
    (below_at 16 (λ k. below 64 (λ l. same (lane l (k * 0x1111_1111_1111_1111)) (lane (l % 4) k))) tt k h) l q

pub repeat-is : (r d : ℕ) → r < 2 ^ 64 → ((s : ℕ) → s < 16 → nibble r s ≡ nibble d 0) → r ≡ repeated d
repeat-is r d fits e =
    let k = d % 16 in
    let f : (l : ℕ) → l < 64 → lane l r ≡ lane (l % 4) k =
    λ l h.
    let q : l % 4 + 4 * (l / 4) ≡ l = omega arith in
    ap (λ (n : ℕ). lane n r) (sym q) ∙ repeat-lane r d e (l / 4) (l % 4) (omega arith) (omega arith)
    ∙ sym (lane-mod 4 (l % 4) d (omega arith)) in
    word-known r (λ l. lane (l % 4) k) fits f
    ∙ sym (word-known (k * 0x1111_1111_1111_1111) (λ l. lane (l % 4) k) (omega arith)
    (λ l h. lanes-repeated k (omega arith) l h))

-- one lane of each nibble, in all its lanes
next-nibble : (w s : ℕ) → nibble w (suc s) ≡ nibble (w / 16) s
next-nibble w s =
    let e : 4 + 4 * s ≡ 4 * suc s = omega arith in
    sym (ap (λ (x : ℕ). x % 16) (shr-shr w 4 (4 * s) ∙ ap (λ (m : ℕ). w / 2 ^ m) e))

fifteen-high : (k q : ℕ) → q ≤ 1 → (16 * k + q) * 15 / 16 ≡ k * 15
fifteen-high k zero h = omega arith
fifteen-high k (suc zero) h = omega arith
fifteen-high k (suc (suc q)) h = absurd (omega arith)

fifteen-low : (k q : ℕ) → q ≤ 1 → (16 * k + q) * 15 % 16 ≡ 15 * q
fifteen-low k zero h = omega arith
fifteen-low k (suc zero) h = omega arith
fifteen-low k (suc (suc q)) h = absurd (omega arith)

fifteen : (s y : ℕ) → ((k : ℕ) → k ≤ s → nibble y k ≤ 1) → nibble (y * 15) s ≡ 15 * nibble y s
fifteen zero y h =
    let p : y / 1 % 16 ≤ 1 = h 0 (omega arith) in
    let e = div-one y in
    let d : 16 * (y / 16) + y % 16 ≡ y = omega arith in
    let q : y % 16 ≤ 1 = rw e at p in
    ap (λ (n : ℕ). n % 16) (div-one (y * 15)) ∙ ap (λ (n : ℕ). n * 15 % 16) (sym d) ∙ fifteen-low (y / 16) (y % 16) q
    ∙ ap (λ (n : ℕ). 15 * (n % 16)) (sym e)
fifteen (suc s) y h =
    let p : y / 1 % 16 ≤ 1 = h 0 (omega arith) in
    let e = div-one y in
    let d : 16 * (y / 16) + y % 16 ≡ y = omega arith in
    let q : y % 16 ≤ 1 = rw e at p in
    next-nibble (y * 15) s ∙ ap (λ (n : ℕ). nibble (n * 15 / 16) s) (sym d) ∙ ap (λ (n : ℕ). nibble n s)
    (fifteen-high (y / 16) (y % 16) q)
    ∙ fifteen s (y / 16) (λ k g. let r = h (suc k) (omega arith) in rw (next-nibble y k) at r)
    ∙ ap (λ (n : ℕ). 15 * n) (sym (next-nibble y s))

-- all lanes of 15, and none of 0
fifteens : (b : Bool) (i : ℕ) → i < 4 → lane i (15 * bit b) ≡ b
fifteens true i h = same-below 4 (λ i. lane i 15) (λ i. true) tt i h
fifteens false i h = same-below 4 (λ i. lane i 0) (λ i. false) tt i h

abbrev only_first : ℕ → Bool → Bool
only_first zero b = b
only_first (suc i) b = false

module _ (x m : ℕ) where
  -- lane m of each nibble
  abbrev picked : ℕ
  picked = bit_and (x / 2 ^ m) 0x1111_1111_1111_1111

  picked-at : (l : ℕ) → lane l picked ≡ (lane (l + m) x && lane l 0x1111_1111_1111_1111)
  picked-at l = lane_and l (x / 2 ^ m) 0x1111_1111_1111_1111 ∙ ap (λ (b : Bool). b && lane l 0x1111_1111_1111_1111)
      (lane-shift m l x)

  -- only the lowest lane of a nibble is marked
  marked : (i s : ℕ) → i < 4 → s < 16 → lane (i + 4 * s) 0x1111_1111_1111_1111 ≡ only_first i true
  marked i s p q =
      same-below 16 (λ s. lane (i + 4 * s) 0x1111_1111_1111_1111) (λ s. only_first i true)
      (below_at 4 (λ i. below 16 (λ s. same (lane (i + 4 * s) 0x1111_1111_1111_1111) (only_first i true))) tt i p) s q

  picked-nibble : (s : ℕ) → s < 16 → nibble picked s ≡ bit (lane (m + 4 * s) x)
  picked-nibble s q =
      let e : 0 + 4 * s + m ≡ m + 4 * s = omega arith in
      let low : lane (0 + 4 * s) picked ≡ lane (m + 4 * s) x =
      picked-at (0 + 4 * s) ∙ ap (λ (b : Bool). lane (0 + 4 * s + m) x && b) (marked 0 s (omega arith) q)
      ∙ and_yes (lane (0 + 4 * s + m) x)
      ∙ ap (λ (k : ℕ). lane k x) e in
      let other : (i : ℕ) → i < 3 → lane (suc i + 4 * s) picked ≡ false =
      λ i h. picked-at (suc i + 4 * s) ∙ ap (λ (b : Bool). lane (suc i + 4 * s + m) x && b)
      (marked (suc i) s (omega arith) q)
      ∙ and_no (lane (suc i + 4 * s + m) x) in
      nibble-word picked s
      ∙ word_same 4 (λ i. lane (i + 4 * s) picked) (λ i. only_first i (lane (m + 4 * s) x))
      (λ i h. first-only s i h low other)
      ∙ alone (lane (m + 4 * s) x)
    where
      first-only : (s : ℕ) {b : Bool} (i : ℕ) → i < 4 → lane (0 + 4 * s) picked ≡ b
          → ((i : ℕ) → i < 3 → lane (suc i + 4 * s) picked ≡ false)
          → lane (i + 4 * s) picked ≡ only_first i b
      first-only s zero h e f = e
      first-only s (suc i) h e f = f i (omega arith)

      alone : (b : Bool) → word 4 (λ i. only_first i b) ≡ bit b
      alone true = refl
      alone false = refl

  -- in all lanes of its nibble
  pub chosen-lane : (s i : ℕ) → s < 16 → i < 4 → lane (i + 4 * s) (picked * 15) ≡ lane (m + 4 * s) x
  chosen-lane s i q p =
      sym (nibble-lane (picked * 15) s i p)
      ∙ ap (lane i) (fifteen s picked (λ k g. let e = picked-nibble k (omega arith) in let b
      = bit-most (lane (m + 4 * k) x) in omega arith)
      ∙ ap (λ (n : ℕ). 15 * n) (picked-nibble s q))
      ∙ fifteens (lane (m + 4 * s) x) i p
    where
      bit-most : (b : Bool) → bit b ≤ 1
      bit-most true = omega arith
      bit-most false = omega arith

-- a bit from what it differs by
solve : (p q a b : Bool) → differs p q ≡ (a && b) → differs q (b && a) ≡ p
solve true true true true e = e
solve true true true false e = refl
solve true true false true e = refl
solve true true false false e = refl
solve true false true true e = refl
solve true false true false e = sym e
solve true false false true e = sym e
solve true false false false e = sym e
solve false true true true e = refl
solve false true true false e = e
solve false true false true e = e
solve false true false false e = e
solve false false true true e = sym e
solve false false true false e = refl
solve false false false true e = refl
solve false false false false e = refl

module _ (t low d e m : ℕ) (mask : m < 4) (lows : (s : ℕ) → s < 16 → nibble low s ≡ nibble t 0)
    (others : (s : ℕ) → s < 16 → nibble d s ≡ nibble e 0)
    (two : bit_xor t low ≡ bit_and (bit_and (bit_xor t low / 2 ^ m) 0x1111_1111_1111_1111 * 15) d) where
  x-at : (s i : ℕ) → s < 16 → i < 4 → lane (i + 4 * s) (bit_xor t low) ≡ differs (lane (i + 4 * s) t) (lane i t)
  x-at s i p q = lane_xor (i + 4 * s) t low ∙ ap (differs (lane (i + 4 * s) t)) (repeat-lane low t lows s i p q)

  x-two : (s i : ℕ) → s < 16 → i < 4 → lane (i + 4 * s) (bit_xor t low) ≡ (lane (m + 4 * s) (bit_xor t low) && lane i e)
  x-two s i p q =
      ap (lane (i + 4 * s)) two ∙ lane_and (i + 4 * s) (bit_and (bit_xor t low / 2 ^ m) 0x1111_1111_1111_1111 * 15) d
      ∙ ap₂ ◌&&◌ (chosen-lane (bit_xor t low) m s i p q) (repeat-lane d e others s i p q)

  abbrev leaf : ℕ
  leaf = bit_xor low (bit_and d 0xf0f0_f0f0_f0f0_f0f0)

  leaf-at : (l : ℕ) → l < 64 → lane l leaf ≡ differs (lane (l % 4) t) (lane (l % 4) e && lane 2 l)
  leaf-at l h =
      let i = l % 4 in
      let s = l / 4 in
      let f : l ≡ i + 4 * s = omega arith in
      lane_xor l low (bit_and d 0xf0f0_f0f0_f0f0_f0f0)
      ∙ ap₂ differs (ap (λ (k : ℕ). lane k low) f ∙ repeat-lane low t lows s i (omega arith) (omega arith))
      (lane_and l d 0xf0f0_f0f0_f0f0_f0f0
      ∙ ap₂ ◌&&◌ (ap (λ (k : ℕ). lane k d) f ∙ repeat-lane d e others s i (omega arith) (omega arith))
      (same-below 64 (λ l. lane l 0xf0f0_f0f0_f0f0_f0f0) (λ l. lane 2 l) tt l h))

  pub decides : Decides t m leaf
  decides = record {
    mask = mask;
    each = λ s p l h g.
        let i = l % 4 in
        let q : i < 4 = omega arith in
        let b : lane (m + 4 * s) (bit_xor t low) ≡ lane 2 l = x-at s m p mask ∙ sym g in
        leaf-at l h
        ∙ solve (lane (i + 4 * s) t) (lane i t) (lane 2 l) (lane i e)
        (sym (x-at s i p q) ∙ x-two s i p q ∙ ap (λ (c : Bool). c && lane i e) b);
  }

-- and that is what is chosen
module _ (t low d : ℕ) where
  abbrev changes : ℕ
  changes = bit_xor t low

  abbrev lowest : ℕ
  lowest = count_trailing_zeros 64 changes

  abbrev both_parts : ℕ
  both_parts = bit_and (bit_and (changes / 2 ^ (lowest % 4)) 0x1111_1111_1111_1111 * 15) d

  module _ (some : changes ≢ 0) (e : d ≡ repeated (nibble changes (lowest / 4))) where
    pub chosen-no : changes ≢ both_parts → None ≡ chosen_by t low
    chosen-no ne =
        let p : None ≡ chosen_at low changes lowest d = rw (ne_eqb changes both_parts ne) refl in
        rw (ne_eqb changes 0 some) (p ∙ ap (chosen_at low changes lowest) e)

    pub chosen-yes : changes ≡ both_parts → Some (lowest % 4, bit_xor low (bit_and d 0xf0f0_f0f0_f0f0_f0f0))
        ≡ chosen_by t low
    chosen-yes eq =
        let p : Some (lowest % 4, bit_xor low (bit_and d 0xf0f0_f0f0_f0f0_f0f0)) ≡ chosen_at low changes lowest d =
        rw (eq-eqb changes both_parts eq) refl in
        rw (ne_eqb changes 0 some) (p ∙ ap (chosen_at low changes lowest) e)

-- so the record over the wire's own atom is right
mask-bits : (l : ℕ) → l < 64 → (lane 0 (l % 4) ≡ lane 0 l) × (lane 1 (l % 4) ≡ lane 1 l)
mask-bits l h = (
  same-below 64 (λ l. lane 0 (l % 4)) (λ l. lane 0 l) tt l h,
  same-below 64 (λ l. lane 1 (l % 4))
      (λ l. lane 1 l) tt l h,
)

pub leaf-right : {r : Record} {m u a w : ℕ} → Decides r.table m u → w < 268435456 → a
    ≡ 8 * w + (2 * m + bit (lane m r.table))
    → LeafIs w r (Some (over u a))
leaf-right {r} {m} {u} {a} {w} D small e bits wire own R = record {
  each = λ l h at.
      let s = setting_of bits r in
      let p : s < 16 = setting-below (bits r.first) (bits r.second) (bits r.third) (bits r.fourth) in
      let q = bit-most (lane m r.table) in
      let k = D.mask in
      let some : a ≡ no_atom → ⊥ = λ z. omega arith in
      let g : lane 2 l ≡ differs (lane (m + 4 * s) r.table) (lane m r.table) =
      sym (at.first.bit some) ∙ ap bits e ∙ own.atom m k (lane m r.table)
      ∙ ap (λ (b : Bool). differs b (lane m r.table)) (sym (shown bits r wire R m k)) in
      D.each s p l h g ∙ shown bits r wire R (l % 4) (omega arith) ∙ ap₂ wire (mask-bits l h).0 (mask-bits l h).1;
}
  where
    bit-most : (b : Bool) → bit b ≤ 1
    bit-most true = omega arith
    bit-most false = omega arith
