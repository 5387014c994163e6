-- A range of numbers.
use Rattle.std.specs.Prelude.{ℕ, Bool, leb}

-- 0 to most
abbrev pub up_to : ℕ → ℕ → Bool
up_to most e = leb e most
