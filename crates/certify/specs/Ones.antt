-- The input bits that are one.
use Rattle.std.specs.Prelude.{ℕ, zero, suc, Bool, false, cond, List, [], ◌∷◌, ◌++◌, length, get_or}
use Rattle.evaluate.specs.Lane.{lane}

-- the numbers below n of which f holds, rising
abbrev pub ones_below : (ℕ → Bool) → ℕ → List ℕ
ones_below f zero = []
ones_below f (suc n) = ones_below f n ++ cond (f n) (n ∷ []) []

-- the numbers of the words that have a one in a lane
abbrev pub ones_at : ℕ → List ℕ → List ℕ
ones_at place words = ones_below (λ i. lane place (get_or words i 0)) (length words)

-- the bits of a setting that are one
abbrev pub ones_in : List Bool → List ℕ
ones_in x = ones_below (λ i. get_or x i false) (length x)
