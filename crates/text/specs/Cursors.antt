-- What is left of a text from a cursor, and what the answers over cursors mean.
use Rattle.std.specs.Prelude.{ℕ, Option, Some, None, ◌≤◌, ◌<◌, ◌≡◌, Bool, true, false, List, [], drop}
use Rattle.std.proofs.Math.Option.{none, some}
use Rattle.netlist.specs.Number.{number}
use Rattle.text.specs.Line.{in_word, take_while, drop_while, next_word, past_word, past_space, after_line, line_words}
use Rattle.text.specs.Line.{is_empty}
use Rattle.text.specs.Answers.{one_digit}
use Rattle.text.specs.declared.cursor.Cursor.{Cursor}

abbrev pub left : Cursor → List ℕ
left c = drop c.at c.text.now

-- a scan over bytes that pass the test p went from c to d
pub record Scanned (p : ℕ → Bool) (c d : Cursor) : Type 0 where
  pub rest : left d ≡ drop_while p (left c)
  pub on : c.at ≤ d.at
  pub same : d.text ≡ c.text

-- the next word from c is w, and d stands after it
pub record WordIs (c : Cursor) (w : List ℕ) (d : Cursor) : Type 0 where
  pub word : w ≡ next_word (left c)
  pub rest : left d ≡ past_word (left c)
  pub on : c.at ≤ d.at
  pub same : d.text ≡ c.text

-- the line of c has no words left, and the next line starts at d
pub record EndAt (c d : Cursor) : Type 0 where
  pub none : line_words (left c) ≡ []
  pub rest : left d ≡ after_line (left c)
  pub on : c.at ≤ d.at
  pub same : d.text ≡ c.text

abbrev pub EndIs : Cursor → Option Cursor → Type 0
EndIs c (Some d) = EndAt c d
EndIs c None = is_empty (line_words (left c)) ≡ false

-- the line after that of c starts at d
pub record LineTaken (c d : Cursor) : Type 0 where
  pub rest : left d ≡ after_line (left c)
  pub on : c.at ≤ d.at
  pub same : d.text ≡ c.text

-- the word that starts at c is the number v, and with the space after it ends at d
pub record NumberHere (c : Cursor) (v : ℕ) (d : Cursor) : Type 0 where
  pub value : number (take_while in_word (left c)) ≡ some v
  pub rest : left d ≡ past_space (drop_while in_word (left c))
  pub on : c.at < d.at
  pub same : d.text ≡ c.text

abbrev pub NumberFrom : Cursor → Option (ℕ × Cursor) → Type 0
NumberFrom c (Some (v, d)) = NumberHere c v d
NumberFrom c None = number (take_while in_word (left c)) ≡ none

-- the next word from c is the number v, and with the space after it ends at d
pub record NumberAt (c : Cursor) (v : ℕ) (d : Cursor) : Type 0 where
  pub value : number (next_word (left c)) ≡ some v
  pub rest : left d ≡ past_space (past_word (left c))
  pub on : c.at < d.at
  pub same : d.text ≡ c.text

abbrev pub NumberIs : Cursor → Option (ℕ × Cursor) → Type 0
NumberIs c (Some (v, d)) = NumberAt c v d
NumberIs c None = number (next_word (left c)) ≡ none

-- the number of one digit with a space after it, where there is one
abbrev pub DigitIs : Cursor → Option (ℕ × Cursor) → Type 0
DigitIs c (Some (v, d)) = (one_digit c.text.now c.at ≡ true) × NumberAt c v d
DigitIs c None = one_digit c.text.now c.at ≡ false
