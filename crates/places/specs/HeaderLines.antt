-- The first header line that question 4 refuses (docs/RULES.md, Header and gate lines).
use Rattle.std.specs.Prelude.{ℕ, zero, suc, ◌<◌, ◌≡◌, Bool, true, false, ◌&&◌, Option, Some, None, List, [], ◌∷◌, eqb, leb}
use Rattle.std.specs.Prelude.{length, get_or}
use Rattle.std.proofs.Math.Option as maybe
use Rattle.std.proofs.Math.Option.{none, some}
use Rattle.netlist.specs.Lists.{every}
use Rattle.netlist.specs.Header.{numbers}
use Rattle.text.specs.Line.{line_words}
use Rattle.text.specs.Cursors.{left}
use Rattle.text.specs.declared.cursor.Cursor.{Cursor}

-- whether the numbers of a line are those of header line k, counted from 0: two numbers; otherwise 1 or more, and as
-- many numbers of 1 or more
abbrev pub header_form : ℕ → maybe.Option (List ℕ) → Bool
header_form k none = false
header_form zero (some xs) = eqb (length xs) 2
header_form (suc k) (some []) = false
header_form (suc k) (some (x ∷ ws)) = leb 1 x && eqb x (length ws) && every (leb 1) ws

-- line k is a header line and not of its form, and each line before it is; a line that is not there has no words
pub record HeaderRefused (ls : List (List (List ℕ))) (k : ℕ) : Type 0 where
  pub which : k < 3
  pub earlier : (j : ℕ) → j < k → header_form j (numbers (get_or ls j [])) ≡ true
  pub here : header_form k (numbers (get_or ls k [])) ≡ false

-- the line from c consists of n numbers, and p says whether each is 1 or more
pub record RestAre (c : Cursor) (n : ℕ) (p : Bool) : Type 0 where
  pub seen : List ℕ
  pub line : numbers (line_words (left c)) ≡ some seen
  pub count : length seen ≡ n
  pub positive : every (leb 1) seen ≡ p

abbrev pub RestIs : Cursor → Option (ℕ × Bool) → Type 0
RestIs c (Some (n, p)) = RestAre c n p
RestIs c None = numbers (line_words (left c)) ≡ none
