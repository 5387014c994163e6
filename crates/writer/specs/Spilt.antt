-- Text that was stored with bytes after it that do not belong to it.
use Rattle.std.specs.Prelude.{ℕ, ◌+◌, ◌≤◌, ◌≡◌, List, ◌++◌, length}
use Rattle.writer.specs.Wrote.{Wrote}

-- a word's text was stored, and the rest of its eight bytes; r is the place after the text
pub record Stored (e : List ℕ) (at : ℕ) (bs x : List ℕ) (r : ℕ) : Type 0 where
  pub rest : List ℕ
  pub wrote : Wrote e at (bs ++ rest) x (at + 8)
  pub eight : length bs + length rest ≡ 8
  pub least : 2 ≤ length bs
  pub next : r ≡ at + length bs

-- bs was written, at most j bytes, and at most k bytes after it
pub record Spilt (j k : ℕ) (e : List ℕ) (at : ℕ) (bs x : List ℕ) (r : ℕ) : Type 0 where
  pub rest : List ℕ
  pub end : ℕ
  pub wrote : Wrote e at (bs ++ rest) x end
  pub few : length bs ≤ j
  pub spilt : length rest ≤ k
  pub next : r ≡ at + length bs
