-- Settings by colours (docs/RULES.md, Many inputs): an input's paint is a byte that holds its code and, times four, its
-- colour. An input of colour c + 1 takes bit c of a number, so that numbers stand for settings of all inputs. Inputs
-- may share a colour.
use Rattle.std.specs.Prelude.{ℕ, zero, suc, ◌+◌, ◌*◌, ◌/◌, ◌%◌, Bool, false, List, [], ◌∷◌}
use Rattle.evaluate.specs.Lane.{lane}

abbrev pub code_of : ℕ → ℕ
code_of p = p % 4

abbrev pub colour_of : ℕ → ℕ
colour_of p = p / 4

-- the input codes
abbrev pub codes_of : List ℕ → List ℕ
codes_of [] = []
codes_of (p ∷ ps) = code_of p ∷ codes_of ps

-- the bit of a number that a colour takes; without a colour, 0, it is zero
abbrev pub shade : ℕ → ℕ → Bool
shade zero t = false
shade (suc c) t = lane c t

-- the setting that a number stands for
abbrev pub paint : List ℕ → ℕ → List Bool
paint [] t = []
paint (p ∷ ps) t = shade (colour_of p) t ∷ paint ps t

-- colours from k + 1 on, one for each code: with them a number stands for the setting of that number
abbrev pub paint_each : ℕ → List ℕ → List ℕ
paint_each k [] = []
paint_each k (e ∷ es) = (e + 4 * suc k) ∷ paint_each (suc k) es
