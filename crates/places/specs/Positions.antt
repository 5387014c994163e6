-- Where bytes and words stand in a text.
use Rattle.std.specs.Prelude.{ℕ, zero, suc, ◌+◌, ◌≤◌, ◌≡◌, cond, List, [], ◌∷◌, length, drop}
use Rattle.netlist.specs.Text.{is_space, is_line_end}
use Rattle.text.specs.Line.{is_blank, drop_while, next_lines_of, past_word}

-- the line after some bytes that begin on line n: each line end begins one more
abbrev pub line_after : ℕ → List ℕ → ℕ
line_after n [] = n
line_after n (x ∷ xs) = line_after (cond (is_line_end x) (n + 1) n) xs

-- the column after some bytes that begin in column n: each byte is one more, and after a line end it is 1
abbrev pub column_after : ℕ → List ℕ → ℕ
column_after n [] = n
column_after n (x ∷ xs) = column_after (cond (is_line_end x) 1 (n + 1)) xs

-- what is left of a line after its first k words, and the spaces after them
abbrev pub words_on : ℕ → List ℕ → List ℕ
words_on zero s = s
words_on (suc k) s = words_on k (drop_while is_space (past_word s))

-- what is left of a text from a word of a line that is not blank on, each counted from 0
unfoldable pub from_word : ℕ → ℕ → List ℕ → List ℕ
from_word line word t = words_on word (drop_while is_blank (next_lines_of line t))

-- the word stands at a place: the only one from which so much is left
pub record Stands (t : List ℕ) (line word at : ℕ) : Type 0 where
  pub place : drop at t ≡ from_word line word t
  pub within : at ≤ length t
