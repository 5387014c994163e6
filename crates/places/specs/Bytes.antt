-- The first byte that question 3 refuses (docs/RULES.md, Text and line ends).
use Rattle.std.specs.Prelude.{ℕ, Option, Some, None, ◌+◌, ◌<◌, ◌≡◌, true, false, List, length, get_or}
use Rattle.netlist.specs.Read.{bytes_allowed}
use Rattle.text.specs.Answers.{allowed_before}

-- every byte before it is allowed with the one after it, and it is not
pub record FirstByte (t : List ℕ) (at : ℕ) : Type 0 where
  pub within : at < length t
  pub earlier : (i : ℕ) → i < at → allowed_before (get_or t i 0) (get_or t (i + 1) 0) ≡ true
  pub here : allowed_before (get_or t at 0) (get_or t (at + 1) 0) ≡ false

abbrev pub BytesIs : List ℕ → Option ℕ → Type 0
BytesIs t (Some at) = FirstByte t at × (bytes_allowed t ≡ false)
BytesIs t None = bytes_allowed t ≡ true
