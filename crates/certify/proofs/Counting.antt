-- The numbers of which a bit is one, counted and written.
use mathlib.Core.Path.{◌≡◌, refl, sym, ap, ap₂, ◌∙◌}
use mathlib.Core.Bool.{Bool, true, false, cond}
use mathlib.Core.List.{List, [], ◌∷◌}
use Prim.Native.Nat.{ℕ, zero, suc, ◌+◌, ◌-◌, ◌/◌, ◌^◌, ◌<◌, ◌≤◌}
use native.Mathlib.Numerals.{add-one}
use native.Mathlib.Omega.{arith}
use lib.Dec.{eqb}
use borrow.Author.Tests.{eq-eqb, ne_eqb}
use lib.Bits.{bit_and}
use lib.ListN.{length, get_or, take, length-append}
use Rattle.std.specs.List.{filter, count_by}
use Rattle.std.proofs.lemmas.List.Sums.{length-filter}
use Rattle.std.proofs.lemmas.List.Filters.{length-filter_more}
use lib.Seq.{sets, take_all}
use Rattle.netlist.specs.Eval.{bit}
use Rattle.evaluate.specs.Lane.{lane}
use Rattle.evaluate.proofs.Lanes.{bit-low}
use Rattle.writer.proofs.Places.{sets-append}
use Rattle.certify.specs.Ones.{ones_below}

one-long : (b : Bool) (i : ℕ) → length {A = ℕ} (cond b (i ∷ []) []) ≡ bit b
one-long true i = refl
one-long false i = refl

module _ (f : ℕ → Bool) where
  pub ones-more : (n : ℕ) → length (ones_below f (n + 1)) ≡ length (ones_below f n) + bit (f n)
  ones-more n =
      ap (λ (k : ℕ). length (ones_below f k)) (add-one n) ∙ length-append (ones_below f n) (cond (f n) (n ∷ []) [])
      ∙ ap (λ (k : ℕ). length (ones_below f n) + k) (one-long (f n) n)

  ones-grow : (n k : ℕ) → length (ones_below f n) ≤ length (ones_below f (n + k))
  ones-grow n zero = let e : n + 0 ≡ n = omega arith in rw e (omega arith)
  ones-grow n (suc k) =
      let h = ones-grow n k in
      let m = ones-more (n + k) in
      let e : n + suc k ≡ n + k + 1 = omega arith in
      rw e (omega arith)

  pub ones-most : (i n : ℕ) → i ≤ n → length (ones_below f i) ≤ length (ones_below f n)
  ones-most i n h = let e : i + (n - i) ≡ n = omega arith in rw e at (ones-grow i (n - i))

one_more : (b : Bool) → cond b 1 0 ≡ bit b
one_more true = refl
one_more false = refl

-- the words that pass a test, counted
module _ (p f : ℕ → Bool) (words : List ℕ) (same : (i : ℕ) → p (get_or words i 0) ≡ f i) where
  counted-to : (i : ℕ) → i ≤ length words → length (filter p (take i words)) ≡ length (ones_below f i)
  counted-to zero h = refl
  counted-to (suc i) h =
      let k = counted-to i (omega arith) in
      let m = length-filter_more p words i 0 (omega arith) in
      let b = one_more (p (get_or words i 0)) ∙ ap bit (same i) in
      let g : length (filter p (take (i + 1) words)) ≡ length (ones_below f (i + 1))
      = omega (arith, k, m, b, ones-more f i) in
      rw (add-one i) at g

  pub counted : count_by p words ≡ length (ones_below f (length words))
  counted =
      sym (length-filter p words) ∙ ap (λ (xs : List ℕ). length (filter p xs))
      (sym (take_all (length words) words (omega arith))) ∙ counted-to (length words) (omega arith)

pub record Writing (f : ℕ → Bool) (out₀ out : List ℕ) (at i : ℕ) : Type 0 where
  pub place : at ≡ length (ones_below f i)
  pub written : out ≡ sets out₀ 0 (ones_below f i)

-- a number that is one has a place
pub writing-room : (f : ℕ → Bool) {out₀ out : List ℕ} {at i room : ℕ} (n : ℕ) → Writing f out₀ out at i → f i ≡ true
    → i < n → length (ones_below f n) ≤ room → at < room
writing-room f {i = i} n W b h l =
    let o : bit (f i) ≡ 1 = ap bit b in
    omega (arith, o, W.place, ones-more f i, ones-most f (i + 1) n (omega arith))

pub writing_more : {f : ℕ → Bool} {out₀ out out' : List ℕ} {at at' i : ℕ} (b : Bool) → Writing f out₀ out at i → b ≡ f i
    → out' ≡ sets out at (cond b (i ∷ []) []) → at' ≡ at + length {A = ℕ} (cond b (i ∷ []) [])
    → Writing f out₀ out' at' (i + 1)
writing_more {f} {out₀ = out₀} {at = at} {i = i} b W e w p = record {
  place =
      let m = ones-more f i in
      let q = one-long b i in
      let r : bit b ≡ bit (f i) = ap bit e in
      omega (arith, p, W.place);
  written =
      let s : at ≡ 0 + length (ones_below f i) = omega (arith, W.place) in
      w ∙ ap₂ (λ (o : List ℕ) (c : Bool). sets o at (cond c (i ∷ []) [])) W.written e
      ∙ ap (λ (k : ℕ). sets (sets out₀ 0 (ones_below f i)) k (cond (f i) (i ∷ []) [])) s
      ∙ sym (sets-append out₀ 0 (ones_below f i) (cond (f i) (i ∷ []) []))
      ∙ ap (λ (k : ℕ). sets out₀ 0 (ones_below f k)) (sym (add-one i));
}

-- the lane of a word, as the code tests it
pub lane_test : (j n : ℕ) → eqb (bit_and (n / 2 ^ j) 1) 1 ≡ lane j n
lane_test j n = ap (λ (k : ℕ). eqb k 1) (bit-low j n) ∙ go (lane j n)
  where
    go : (b : Bool) → eqb (bit b) 1 ≡ b
    go true = refl
    go false = refl

pub lane-one : (j n : ℕ) → bit_and (n / 2 ^ j) 1 ≡ 1 → lane j n ≡ true
lane-one j n e = sym (lane_test j n) ∙ eq-eqb (bit_and (n / 2 ^ j) 1) 1 e

pub lane-none : (j n : ℕ) → (bit_and (n / 2 ^ j) 1 ≡ 1 → ⊥) → lane j n ≡ false
lane-none j n e = sym (lane_test j n) ∙ ne_eqb (bit_and (n / 2 ^ j) 1) 1 e
