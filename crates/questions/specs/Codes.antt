-- Input codes.
use Rattle.std.specs.Prelude.{ℕ, ◌<◌, List, length, get_or}

-- each entry of a list is one of the four codes
abbrev pub AreCodes : List ℕ → Type 0
AreCodes codes = (i : ℕ) → i < length codes → get_or codes i 0 < 4
