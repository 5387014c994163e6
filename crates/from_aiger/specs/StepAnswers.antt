-- What the answers on lines that follow each other mean.
use Rattle.std.specs.Prelude.{ℕ, Option, Some, None, ◌+◌, ◌≤◌, ◌≡◌, true, List, [], drop, set, replicate}
use Rattle.std.proofs.Math.Option.{some}
use Rattle.from_aiger.specs.declared.lines.Lines.{Lines}
use Rattle.aiger.specs.Lines.{formed, input_line}
use Rattle.aiger.specs.Rules.{fresh, giving, fresh_all}
use Rattle.aiger.specs.Outputs.{enter}
use Rattle.aiger.specs.Made.{up_from}
use Rattle.from_aiger.specs.LineAnswers.{lines_left, at_front}
use Rattle.from_aiger.specs.Places.{Places}

-- the first of some lines gives a new variable the wire
pub record InputAt (ls : List (List (List ℕ))) (wire M : ℕ) (given before after : List ℕ) (left : List (List (List ℕ)))
    : Type 0 where
  pub is : ℕ
  pub line : at_front input_line ls ≡ some is
  pub new : fresh M given is ≡ true
  pub low : is ≤ M
  pub table : after ≡ set before is (wire + 1)
  pub next : left ≡ drop 1 ls

abbrev pub InputIs : List (List (List ℕ)) → ℕ → ℕ → List ℕ → List ℕ → List ℕ → Option Lines → Type 0
InputIs ls wire M given before after (Some l) = InputAt ls wire M given before after (lines_left l)
InputIs ls wire M given before after None = (v : ℕ) → at_front input_line ls ≡ some v → fresh M given v ≡ true → ⊥

-- the first of some lines are so many inputs, whose wires the table has
pub record InputsAt (ls : List (List (List ℕ))) (count M : ℕ) (table : List ℕ) (left : List (List (List ℕ))) : Type 0
  where
    pub are : List ℕ
    pub lines : formed input_line count ls ≡ some are
    pub new : fresh_all M [] are ≡ true
    pub places : Places table (giving [] are) (enter (replicate (M + 1) 0) are (up_from 0 count))
    pub next : left ≡ drop count ls

abbrev pub InputsIs : List (List (List ℕ)) → ℕ → ℕ → List ℕ → Option Lines → Type 0
InputsIs ls count M table (Some l) = InputsAt ls count M table (lines_left l)
InputsIs ls count M table None = (vs : List ℕ) → formed input_line count ls ≡ some vs → fresh_all M [] vs ≡ true → ⊥
