-- How many settings have each count, and a witness of a leak with as few ones as possible (docs/RULES.md, Leaks).
use Rattle.std.specs.Prelude.{ℕ, zero, suc, ◌+◌, ◌/◌, ◌%◌, ◌^◌, ◌≤◌, ◌<◌, Bool, true, cond, not, ◌&&◌, List, [], ◌∷◌}
use Rattle.std.specs.Prelude.{◌≡◌, ◌≢◌, Option, Some, None, eqb, ltb, length, get_or}
use Rattle.netlist.specs.Netlist.{Netlist}
use Rattle.netlist.specs.Eval.{bit}
use Rattle.masking.specs.Leak.{count_at, base_at, EqualCounts}

-- of the settings below S, how many have count c
abbrev pub settings_with : (ℕ → ℕ) → ℕ → ℕ → ℕ
settings_with g c zero = 0
settings_with g c (suc S) = settings_with g c S + bit (eqb (g S) c)

-- how many of the first k bits of a number are one
abbrev pub weight : ℕ → ℕ → ℕ
weight zero s = 0
weight (suc k) s = s % 2 + weight k (s / 2)

-- a setting has fewer ones than the one so far, if there is one
abbrev pub lighter : ℕ → ℕ → Option ℕ → Bool
lighter k s None = true
lighter k s (Some b) = ltb (weight k s) (weight k b)

-- of the settings below S whose count g is not their base's f, the one with the fewest ones, and of those the first
abbrev pub lightest : (ℕ → ℕ) → (ℕ → ℕ) → ℕ → ℕ → Option ℕ
lightest f g k zero = None
lightest f g k (suc S) = cond (not (eqb (f S) (g S)) && lighter k S (lightest f g k S)) (Some S) (lightest f g k S)

-- a witness, its base's count and its own
abbrev pub witness_numbers : (ℕ → ℕ) → (ℕ → ℕ) → Option ℕ → List ℕ
witness_numbers f g None = []
witness_numbers f g (Some s) = s ∷ f s ∷ g s ∷ []

-- how many of S settings of k bits have the counts 0 to 4, then the witness, where there is one
abbrev pub counts_of : (ℕ → ℕ) → (ℕ → ℕ) → ℕ → ℕ → List ℕ
counts_of f g k S = settings_with g 0 S ∷ settings_with g 1 S ∷ settings_with g 2 S ∷ settings_with g 3 S
    ∷ settings_with g 4 S ∷ witness_numbers f g (lightest f g k S)

-- those of a wire
unfoldable pub counts : Netlist → List ℕ → ℕ → List ℕ
counts N codes w = counts_of (base_at N codes w) (count_at N codes w) (length codes) (2 ^ length codes)

-- a setting whose count is not its base's, with the two counts; no such setting has fewer ones
pub record Witness (N : Netlist) (codes : List ℕ) (w at base own : ℕ) : Type 0 where
  pub inside : at < 2 ^ length codes
  pub is_base : base ≡ base_at N codes w at
  pub is_own : own ≡ count_at N codes w at
  pub other : base ≢ own
  pub leaks : EqualCounts N codes w → ⊥
  pub least : (s : ℕ) → s < 2 ^ length codes → base_at N codes w s ≢ count_at N codes w s
      → weight (length codes) at ≤ weight (length codes) s

-- what the numbers of a wire say: five alone are those of a wire with equal counts, eight end in a witness
pub record WireCounted (N : Netlist) (codes : List ℕ) (w : ℕ) (list : List ℕ) : Type 0 where
  pub each : (c : ℕ) → c < 5 → get_or list c 0 ≡ settings_with (count_at N codes w) c (2 ^ length codes)
  pub clean : length list ≡ 5 → EqualCounts N codes w
  pub witness : length list ≢ 5 → Witness N codes w (get_or list 5 0) (get_or list 6 0) (get_or list 7 0)
