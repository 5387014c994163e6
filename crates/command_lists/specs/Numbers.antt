-- How many bits values have together.
use Rattle.std.specs.Prelude.{ℕ, ◌+◌, ◌-◌, ◌^◌, List, min, fold}

-- the bits of values of these widths, or the largest number of 64 bits where they are more
abbrev pub total_of : List ℕ → ℕ
total_of widths = fold (λ bits width. min (bits + width) (2 ^ 64 - 1)) 0 widths
