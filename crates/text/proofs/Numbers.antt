-- Which words are numbers, and the digits of a number.
use Prim.Native.Nat.{ℕ, ◌+◌, ◌-◌, ◌<◌, ◌≤◌}
use mathlib.Core.Path.{◌≡◌, refl, sym, ap, ◌∙◌}
use mathlib.Core.Bool.{Bool, true, false, ◌&&◌, ◌||◌, not, and-false}
use mathlib.Core.List.{List, [], ◌∷◌}
use mathlib.Core.Option.{none, some}
use native.Mathlib.Omega.{arith}
use lib.Dec.{eqb, leb}
use lib.ListN.{length}
use borrow.Author.Tests.{eqb-true, eqb-false, ne_eqb, leb-true, leb-false, le-leb, lt-leb}
use Rattle.netlist.specs.Text.{space, lf, cr}
use Rattle.netlist.specs.Number.{is_digit, all_digits, value_from, no_leading_zero, max_digits, number}
use Rattle.netlist.proofs.Tests.{on_bool, is_true, true-T, both, clash}
use Rattle.text.specs.Line.{is_blank, in_word}
use Rattle.text.specs.Answers.{is_full}

-- ---- words that are no numbers

module _ (w : List ℕ) where
  pub no-digits : all_digits w ≡ false → number w ≡ none
  unfolding number
  no-digits h = rw h

  pub ill-led : no_leading_zero w ≡ false → number w ≡ none
  unfolding number
  ill-led h = rw h (rw (and-false (all_digits w)))

  pub too_long : max_digits < length w → number w ≡ none
  unfolding number
  too_long h = rw (lt-leb _ _ h) (rw (and-false (all_digits w && no_leading_zero w)))

  pub a-number : all_digits w ≡ true → no_leading_zero w ≡ true → length w ≤ max_digits → number w
      ≡ some (value_from 0 w)
  unfolding number
  a-number d z l = rw d (rw z (rw (le-leb _ _ l)))

-- a value above 0 does not lead with a zero
pub led-filled : (w : List ℕ) (v : ℕ) → 0 < v → no_leading_zero ((48 + v) ∷ w) ≡ true
led-filled [] v h = refl
led-filled (x ∷ w) v h = rw (ne_eqb (48 + v) 48 (λ e. omega arith))

-- ---- digits

pub digit-word : (b : ℕ) → is_digit b ≡ true → in_word b ≡ true
digit-word b h = go (eqb b space) (eqb b cr) (eqb b lf) refl refl refl
  where
    go : (s r l : Bool) → eqb b space ≡ s → eqb b cr ≡ r → eqb b lf ≡ l → not ((s || r) || l) ≡ true
    go true r l p q e = sym (ap is_digit (eqb-true b space p)) ∙ h
    go false true l p q e = sym (ap is_digit (eqb-true b cr q)) ∙ h
    go false false true p q e = sym (ap is_digit (eqb-true b lf e)) ∙ h
    go false false false p q e = refl

-- the bytes above a space are part of a word
pub above-space : (b : ℕ) → space < b → is_blank b ≡ false
above-space b h = rw (ne_eqb b space (λ e. omega arith), ne_eqb b cr (λ e. omega arith), ne_eqb b lf (λ e. omega arith))

pub digit-range : (b : ℕ) → is_digit b ≡ true → (48 ≤ b) × (b ≤ 57)
digit-range b h =
    let k = both (leb 48 b) (leb b 57) (true-T (is_digit b) h)
    in (leb-true 48 b (is_true (leb 48 b) k.0), leb-true b 57 (is_true (leb b 57) k.1))

-- ---- values that no digit may follow

pub full-or : {P : Type 0} (v more : ℕ) → is_full v more ≡ true → (v ≡ 0 → P) → (max_digits - 1 ≤ more → P) → P
full-or v more f at_zero at_long = on_bool (eqb v 0) (λ z. at_zero (eqb-true v 0 z))
    (λ z. at_long (leb-true _ _ (rw z at f)))

pub not_full : (v more : ℕ) → is_full v more ≡ false → (0 < v) × (more < max_digits - 1)
not_full v more f = on_bool (eqb v 0) zero-full (λ z. (omega (arith, eqb-false v 0 z), leb-false _ _ (rw z at f)))
  where
    zero-full : eqb v 0 ≡ true → (0 < v) × (more < max_digits - 1)
    zero-full z = let n : ◌≡◌ {A = Bool} true false = rw z at f in clash (cc)
