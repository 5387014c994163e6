-- Bits in tables of bytes, an entry for each number.
use Rattle.std.specs.Prelude.{ℕ, ◌+◌, ◌*◌, ◌<◌, Bool, List, ◌≡◌, length, get_or}
use Rattle.netlist.specs.Eval.{bit}
use Rattle.evaluate.specs.Lane.{lane}

-- a table holds the bits of a function
abbrev pub Bits : (ℕ → Bool) → List ℕ → Type 0
Bits f table = (i : ℕ) → i < length table → get_or table i 0 ≡ bit (f i)

-- the lanes of a word were stored from an entry on, where the table is long enough; earlier entries are as they were
pub record Stored (word from : ℕ) (table table' : List ℕ) : Type 0 where
  pub inside : (j : ℕ) → j < 64 → from + j < length table → get_or table' (from + j) 0 ≡ bit (lane j word)
  pub earlier : (i : ℕ) → i < from → get_or table' i 0 ≡ get_or table i 0

-- how many of a setting's four entries are one
abbrev pub table_count : List ℕ → ℕ → ℕ
table_count table s = get_or table (4 * s) 0 + get_or table (4 * s + 1) 0 + get_or table (4 * s + 2) 0
    + get_or table (4 * s + 3) 0
