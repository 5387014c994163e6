-- The first gate line that question 7, 8 or 9 refuses (docs/RULES.md, Questions).
use Rattle.std.specs.Prelude.{ℕ, Bool, Option, Some, None, ◌+◌, ◌≡◌, List, [], ◌∷◌, ◌++◌, length}
use Rattle.std.proofs.Math.Option as maybe
use Rattle.std.proofs.Math.Option.{none, some}
use Rattle.netlist.specs.declared.Gate.{Gate}
use Rattle.netlist.specs.declared.Refusal.{Refusal}
use Rattle.netlist.specs.declared.Refusal.TheVariants as Q
use Rattle.netlist.specs.Refusal.{number_of}
use Rattle.netlist.specs.Outcome.{refused, done}
use Rattle.netlist.specs.Netlist.{result}
use Rattle.netlist.specs.GateLine.{gate_line}
use Rattle.netlist.specs.Read.{is_given, gate_lines}
use Rattle.places.specs.GateWords.{gate_refused}
use Rattle.places.specs.declared.lines.RefusedLine.{RefusedLine}

-- the results of gates in front of other results, the last first
abbrev pub results_of : List ℕ → List Gate → List ℕ
results_of rs [] = rs
results_of rs (g ∷ gs) = results_of (result g ∷ rs) gs

-- the question that refuses a line, with the word that it is put to: 7 the whole line, 8 and 9 a word of its gate
abbrev pub line_refused : (ℕ → Bool) → ℕ → ℕ → maybe.Option Gate → Option (Refusal × ℕ)
line_refused has n W none = Some (Q.Line, 0)
line_refused has n W (some g) = gate_refused has n W g

-- of the gate lines, which follow three header lines, those in front of the line get a yes to all three questions, and the line gets a no to one
pub record FirstLine (n W : ℕ) (ls : List (List (List ℕ))) (r : RefusedLine) : Type 0 where
  pub front : List (List (List ℕ))
  pub line : List (List ℕ)
  pub others : List (List (List ℕ))
  pub gates : List Gate
  pub parts : ls ≡ front ++ (line ∷ others)
  pub place : 3 + length front ≡ r.line
  pub passed : gate_lines n W [] front ≡ done gates
  pub refuses : gate_lines n W [] (front ++ (line ∷ [])) ≡ refused (number_of r.question)
  pub word : line_refused (is_given n (results_of [] gates)) n W (gate_line line) ≡ Some (r.question, r.word)

-- all lines are gates that pass
pub record AllPass (n W : ℕ) (ls : List (List (List ℕ))) : Type 0 where
  pub gates : List Gate
  pub read : gate_lines n W [] ls ≡ done gates

abbrev pub LinesIs : ℕ → ℕ → List (List (List ℕ)) → Option RefusedLine → Type 0
LinesIs n W ls (Some r) = FirstLine n W ls r × (gate_lines n W [] ls ≡ refused (number_of r.question))
LinesIs n W ls None = AllPass n W ls
