-- What the answers on the counts of a gate line mean.
use Rattle.std.specs.Prelude.{ℕ, Option, Some, None, ◌≤◌, ◌≡◌, List, ◌∷◌}
use Rattle.std.proofs.Math.Option.{none, some}
use Rattle.netlist.specs.Number.{number}
use Rattle.text.specs.Cursors.{left}
use Rattle.text.specs.declared.cursor.Cursor.{Cursor}
use Rattle.text.specs.Line.{line_words, after_line}
use Rattle.reader.specs.GateForm.{gate_form}

-- the first line from c begins with the numbers k and 1, and goes on at d
pub record OperandsAt (c : Cursor) (k : ℕ) (d : Cursor) : Type 0 where
  pub operands : List ℕ
  pub results : List ℕ
  pub line : line_words (left c) ≡ operands ∷ results ∷ line_words (left d)
  pub count : number operands ≡ some k
  pub one : number results ≡ some 1
  pub after : after_line (left d) ≡ after_line (left c)
  pub on : c.at ≤ d.at
  pub same : d.text ≡ c.text

abbrev pub OperandsIs : Cursor → Option (ℕ × Cursor) → Type 0
OperandsIs c (Some (k, d)) = OperandsAt c k d
OperandsIs c None = gate_form (line_words (left c)) ≡ none

-- where counts are told they are right; other counts may stand where none are told
abbrev pub UsualIs : Cursor → Option (ℕ × Cursor) → Type 0
UsualIs c (Some (k, d)) = OperandsAt c k d
UsualIs c None = Unit
