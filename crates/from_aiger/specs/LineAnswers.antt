-- What the answers on a line of numbers mean.
use Rattle.std.specs.Prelude.{ℕ, Option, Some, None, ◌≡◌, ◌≤◌, List, [], ◌∷◌, length, drop}
use Rattle.std.proofs.Math.Option as M
use Rattle.std.proofs.Math.Option.{none, some}
use Rattle.netlist.specs.Header.{numbers}
use Rattle.text.specs.Line.{after_line}
use Rattle.aiger.specs.Lines.{file_line, file_lines}
use Rattle.from_aiger.specs.declared.lines.Lines.{Lines}

-- so many numbers it has not
abbrev pub NotSoMany : M.Option (List ℕ) → ℕ → Type 0
NotSoMany o n = (xs : List ℕ) → o ≡ some xs → length xs ≡ n → ⊥

-- the lines that are left
abbrev pub lines_left : Lines → List (List (List ℕ))
lines_left l = file_lines (drop l.at l.text.now)

-- lines of the same text, from the same place on or after it
pub record Behind (l m : Lines) : Type 0 where
  pub text : m.text.now ≡ l.text.now
  pub on : l.at ≤ m.at

abbrev pub BehindIs : Lines → Option Lines → Type 0
BehindIs l (Some m) = Behind l m
BehindIs l None = Unit

abbrev pub OneBehind : {A : Type 0} → Lines → Option (A × Lines) → Type 0
OneBehind l (Some (x, m)) = Behind l m
OneBehind l None = Unit

-- the first line of s holds the numbers xs, and this is after it
pub record FileLineAt (s : List ℕ) (n : ℕ) (xs rest : List ℕ) : Type 0 where
  pub line : numbers (file_line s) ≡ some xs
  pub size : length xs ≡ n
  pub next : rest ≡ after_line s

abbrev pub FileLineIs : List ℕ → ℕ → Option (List ℕ × Lines) → Type 0
FileLineIs s n (Some (xs, l)) = FileLineAt s n xs (drop l.at l.text.now)
FileLineIs s n None = NotSoMany (numbers (file_line s)) n

-- what the first of some lines is
abbrev pub at_front : {A : Type 0} → (List (List ℕ) → M.Option A) → List (List (List ℕ)) → M.Option A
at_front f [] = none
at_front f (l ∷ ls) = f l

-- the numbers of the first of some lines
abbrev pub first_numbers : List (List (List ℕ)) → M.Option (List ℕ)
first_numbers ls = at_front numbers ls

-- the first of some lines holds the numbers xs, and these are left
pub record LineAt (ls : List (List (List ℕ))) (n : ℕ) (xs : List ℕ) (left : List (List (List ℕ))) : Type 0 where
  pub line : first_numbers ls ≡ some xs
  pub size : length xs ≡ n
  pub next : left ≡ drop 1 ls

pub record LineNot (ls : List (List (List ℕ))) (n : ℕ) : Type 0 where
  pub none : NotSoMany (first_numbers ls) n

abbrev pub LineIs : List (List (List ℕ)) → ℕ → Option (List ℕ × Lines) → Type 0
LineIs ls n (Some (xs, l)) = LineAt ls n xs (lines_left l)
LineIs ls n None = LineNot ls n

-- the first of some lines holds one number
pub record OneAt (ls : List (List (List ℕ))) (x : ℕ) (left : List (List (List ℕ))) : Type 0 where
  pub line : first_numbers ls ≡ some (x ∷ [])
  pub next : left ≡ drop 1 ls

abbrev pub OneIs : List (List (List ℕ)) → Option (ℕ × Lines) → Type 0
OneIs ls (Some (x, l)) = OneAt ls x (lines_left l)
OneIs ls None = LineNot ls 1
