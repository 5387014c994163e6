-- Places by their parts: the mask setting and the setting of the atoms; and nibbles by their lanes.
use mathlib.Core.Path.{◌≡◌, sym, ap, ◌∙◌}
use mathlib.Core.Bool.{Bool, not}
use Prim.Native.Nat.{ℕ, ◌+◌, ◌*◌, ◌/◌, ◌^◌, ◌<◌}
use lib.Dec.{T, eqb, ltb, eqb→eq, ltb→lt}
use Rattle.netlist.specs.Lists.{below}
use Rattle.netlist.proofs.EachNumber.{below_at, every4, every4-at, same, same-eq}
use Rattle.evaluate.specs.Lane.{lane, word}
use Rattle.evaluate.proofs.Words.{word_lanes, word_same}
use Rattle.leak_search.specs.Block.{nibble}
use Rattle.leak_search.proofs.Numbers.{lane-shift}
use Rattle.certify_records.specs.Place.{turned}
use Rattle.certify_records.specs.Even.{atom_setting}
use Rattle.certify_records.proofs.Tables.{lane-mod}

-- a nibble is its four lanes
pub nibble-word : (w s : ℕ) → nibble w s ≡ word 4 (λ i. lane (i + 4 * s) w)
nibble-word w s =
    sym (word_lanes 4 (w / 2 ^ (4 * s))) ∙ word_same 4 (λ i. lane i (w / 2 ^ (4 * s))) (λ i. lane (i + 4 * s) w)
    (λ i h. lane-shift (4 * s) i w)

pub nibble-lane : (w s i : ℕ) → i < 4 → lane i (nibble w s) ≡ lane (i + 4 * s) w
nibble-lane w s i h = lane-mod 4 i (w / 2 ^ (4 * s)) h ∙ lane-shift (4 * s) i w

-- a test at each mask setting and each setting of the atoms
module _ (f : ℕ → Bool → Bool → Bool → Bool → Bool) (ok : T (below 4 (λ i. every4 (f i)))) where
  pub at_all : (i : ℕ) → i < 4 → (a b c d : Bool) → T (f i a b c d)
  at_all i h a b c d = every4-at (f i) (below_at 4 (λ i. every4 (f i)) ok i h) a b c d

module _ (i : ℕ) (h : i < 4) (a b c d : Bool) where
  abbrev place : ℕ
  place = i + 4 * atom_setting a b c d

  pub place-below : place < 64
  place-below = ltb→lt place 64 (at_all (λ i a b c d. ltb (i + 4 * atom_setting a b c d) 64) tt i h a b c d)

  pub place-m0 : lane 0 place ≡ lane 0 i
  place-m0 = same-eq (lane 0 place) (lane 0 i)
      (at_all (λ i a b c d. same (lane 0 (i + 4 * atom_setting a b c d)) (lane 0 i)) tt i h a b c d)

  pub place-m1 : lane 1 place ≡ lane 1 i
  place-m1 = same-eq (lane 1 place) (lane 1 i)
      (at_all (λ i a b c d. same (lane 1 (i + 4 * atom_setting a b c d)) (lane 1 i)) tt i h a b c d)

  pub place-first : lane 2 place ≡ a
  place-first = same-eq (lane 2 place) a (at_all (λ i a b c d. same (lane 2 (i + 4 * atom_setting a b c d)) a) tt i h a
      b c d)

  pub place-second : lane 3 place ≡ b
  place-second = same-eq (lane 3 place) b (at_all (λ i a b c d. same (lane 3 (i + 4 * atom_setting a b c d)) b) tt i h a
      b c d)

  pub place-third : lane 4 place ≡ c
  place-third = same-eq (lane 4 place) c (at_all (λ i a b c d. same (lane 4 (i + 4 * atom_setting a b c d)) c) tt i h a
      b c d)

  pub place-fourth : lane 5 place ≡ d
  place-fourth = same-eq (lane 5 place) d (at_all (λ i a b c d. same (lane 5 (i + 4 * atom_setting a b c d)) d) tt i h a
      b c d)

  turn-first : turned 0 place ≡ i + 4 * atom_setting (not a) b c d
  turn-first = eqb→eq (turned 0 place) _
      (at_all (λ i a b c d. eqb (turned 0 (i + 4 * atom_setting a b c d)) (i + 4 * atom_setting (not a) b c d)) tt i h a
      b c d)

  turn-second : turned 1 place ≡ i + 4 * atom_setting a (not b) c d
  turn-second = eqb→eq (turned 1 place) _
      (at_all (λ i a b c d. eqb (turned 1 (i + 4 * atom_setting a b c d)) (i + 4 * atom_setting a (not b) c d)) tt i h a
      b c d)

  turn-third : turned 2 place ≡ i + 4 * atom_setting a b (not c) d
  turn-third = eqb→eq (turned 2 place) _
      (at_all (λ i a b c d. eqb (turned 2 (i + 4 * atom_setting a b c d)) (i + 4 * atom_setting a b (not c) d)) tt i h a
      b c d)

  turn-fourth : turned 3 place ≡ i + 4 * atom_setting a b c (not d)
  turn-fourth = eqb→eq (turned 3 place) _
      (at_all (λ i a b c d. eqb (turned 3 (i + 4 * atom_setting a b c d)) (i + 4 * atom_setting a b c (not d))) tt i h a
      b c d)

pub setting-below : (a b c d : Bool) → atom_setting a b c d < 16
setting-below a b c d = ltb→lt (atom_setting a b c d) 16 (every4-at (λ a b c d. ltb (atom_setting a b c d) 16) tt a b c
    d)

-- a word in which nothing depends on atom j has equal nibbles where that atom alone is another
abbrev pub Free : ℕ → ℕ → Type 0
Free j w = (l : ℕ) → l < 64 → lane l w ≡ lane (turned j l) w

module _ (w j : ℕ) (free : Free j w) (a b c d a' b' c' d' : Bool)
    (turn : (i : ℕ) → i < 4 → turned j (i + 4 * atom_setting a b c d) ≡ i + 4 * atom_setting a' b' c' d') where
  free-nibble : nibble w (atom_setting a b c d) ≡ nibble w (atom_setting a' b' c' d')
  free-nibble =
      nibble-word w (atom_setting a b c d)
      ∙ word_same 4 (λ i. lane (i + 4 * atom_setting a b c d) w) (λ i. lane (i + 4 * atom_setting a' b' c' d') w)
      (λ i h. free (i + 4 * atom_setting a b c d) (place-below i h a b c d) ∙ ap (λ (k : ℕ). lane k w) (turn i h))
      ∙ sym (nibble-word w (atom_setting a' b' c' d'))

module _ (w : ℕ) (a b c d : Bool) where
  pub free-first : Free 0 w → nibble w (atom_setting a b c d) ≡ nibble w (atom_setting (not a) b c d)
  free-first f = free-nibble w 0 f a b c d (not a) b c d (λ i h. turn-first i h a b c d)

  pub free-second : Free 1 w → nibble w (atom_setting a b c d) ≡ nibble w (atom_setting a (not b) c d)
  free-second f = free-nibble w 1 f a b c d a (not b) c d (λ i h. turn-second i h a b c d)

  pub free-third : Free 2 w → nibble w (atom_setting a b c d) ≡ nibble w (atom_setting a b (not c) d)
  free-third f = free-nibble w 2 f a b c d a b (not c) d (λ i h. turn-third i h a b c d)

  pub free-fourth : Free 3 w → nibble w (atom_setting a b c d) ≡ nibble w (atom_setting a b c (not d))
  free-fourth f = free-nibble w 3 f a b c d a b c (not d) (λ i h. turn-fourth i h a b c d)
