-- What the answers on AND lines mean.
use Rattle.std.specs.Prelude.{ℕ, Option, Some, None, ◌+◌, ◌≡◌, true, List, ◌∷◌, ◌++◌, map, drop, set}
use Rattle.std.proofs.Math.Option.{some}
use Rattle.netlist.specs.declared.Gate.{Gate}
use Rattle.netlist.specs.Table.{Tables}
use Rattle.from_aiger.specs.declared.lines.Lines.{Lines}
use Rattle.aiger.specs.File.{AndLine}
use Rattle.aiger.specs.Lines.{and_form, formed}
use Rattle.aiger.specs.Rules.{giving, and_good, ands_good}
use Rattle.aiger.specs.Made.{wire_at, and_made, build}
use Rattle.from_aiger.specs.LineAnswers.{lines_left, at_front}
use Rattle.from_aiger.specs.Places.{Standing}

-- the first of some lines is an AND line that the rules admit; its gates stand after the others, and its variable is
-- given
pub record AndLineAt (ls : List (List (List ℕ))) (M n count : ℕ) (given wires : List ℕ) (gs : List Gate)
    (table : List ℕ) (tabs : Tables)
    (many : ℕ) (left : List (List (List ℕ))) : Type 0 where
  pub is : AndLine
  pub line : at_front and_form ls ≡ some is
  pub good : and_good M given is ≡ true
  pub wire : n + many ≡ (and_made (wire_at wires) is (n + count)).next
  pub standing : Standing table tabs n many (is.left ∷ given)
      (set wires is.left (and_made (wire_at wires) is (n + count)).wire)
      (gs ++ (and_made (wire_at wires) is (n + count)).gates)
  pub next : left ≡ drop 1 ls

abbrev pub AndLineIs : List (List (List ℕ)) → ℕ → ℕ → ℕ → List ℕ → List ℕ → List Gate → List ℕ → Tables
    → Option (ℕ × Lines) → Type 0
AndLineIs ls M n count given wires gs table tabs (Some (k, l)) = AndLineAt ls M n count given wires gs table tabs k
    (lines_left l)
AndLineIs ls M n count given wires gs table tabs None = (a : AndLine) → at_front and_form ls ≡ some a
    → and_good M given a ≡ true → ⊥

-- how many gates an answer tells
abbrev pub gates_said : Option (ℕ × Lines) → ℕ
gates_said (Some (k, l)) = k
gates_said None = 0

-- the first of some lines are so many AND lines that the rules admit, and the tables hold what is built of them
pub record AndsAt (ls : List (List (List ℕ))) (lines M n : ℕ) (given wires table : List ℕ) (tabs : Tables) (many : ℕ)
    (left : List (List (List ℕ))) : Type 0 where
  pub are : List AndLine
  pub form : formed and_form lines ls ≡ some are
  pub good : ands_good M given are ≡ true
  pub wire : n + many ≡ (build wires n are).next
  pub standing : Standing table tabs n many (giving given (map (λ a. a.left) are)) (build wires n are).table
      (build wires n are).gates
  pub next : left ≡ drop lines ls

abbrev pub AndsIs : List (List (List ℕ)) → ℕ → ℕ → ℕ → List ℕ → List ℕ → List ℕ → Tables → Option (ℕ × Lines) → Type 0
AndsIs ls lines M n given wires table tabs (Some (k, l)) = AndsAt ls lines M n given wires table tabs k (lines_left l)
AndsIs ls lines M n given wires table tabs None = (xs : List AndLine) → formed and_form lines ls ≡ some xs
    → ands_good M given xs ≡ true → ⊥
