-- Paints before and after colours are given.
use Rattle.std.specs.Prelude.{ℕ, ◌+◌, ◌≤◌, ◌<◌, List, ◌≡◌, length, get_or}
use Rattle.leak_search.specs.Paint.{colour_of, codes_of}
use Rattle.check_wide.specs.Rule.{colour_at}

-- no input has a colour above K
abbrev pub Upto : ℕ → List ℕ → Type 0
Upto K ps = (i : ℕ) → colour_of (get_or ps i 0) ≤ K

-- the codes are as they were, and no colour is above 12
pub record Coloured (ps ps' : List ℕ) : Type 0 where
  pub codes : codes_of ps' ≡ codes_of ps
  pub upto : Upto 12 ps → Upto 12 ps'

-- and the colours that inputs had stay
pub record Kept (ps ps' : List ℕ) : Type 0 where
  pub coloured : Coloured ps ps'
  pub stay : (i : ℕ) → 0 < colour_of (get_or ps i 0) → colour_of (get_or ps' i 0) ≡ colour_of (get_or ps i 0)

-- the entries of a list are different inputs
pub record Inputs (is : List ℕ) (n : ℕ) : Type 0 where
  pub inside : (a : ℕ) → a < length is → get_or is a 0 < n
  pub apart : (a b : ℕ) → a < length is → b < length is → get_or is a 0 ≡ get_or is b 0 → a ≡ b

-- where its entries are different inputs, entry a of a list has colour a + 1
pub record Seeded (is ps ps' : List ℕ) : Type 0 where
  pub coloured : Coloured ps ps'
  pub each : Inputs is (length ps) → (a : ℕ) → a < length is → colour_at is ps' a ≡ a + 1
