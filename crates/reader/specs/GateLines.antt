-- What the answers of the gate lines' reader mean: questions 6 to 9.
use Rattle.std.specs.Prelude.{ℕ, Result, Ok, Err, ◌≡◌, List, [], ◌∷◌, eqb, length}
use Rattle.netlist.specs.declared.Gate.{Gate}
use Rattle.netlist.specs.Netlist.{result}
use Rattle.netlist.specs.declared.Refusal.{Refusal}
use Rattle.netlist.specs.Refusal.{number_of}
use Rattle.netlist.specs.Outcome.{Outcome, refused, done, ask, and_then}
use Rattle.netlist.specs.Text.{word_lines}
use Rattle.netlist.specs.Read.{gate_lines}
use Rattle.netlist.specs.Table.{Tables, gates_of, Wired}
use Rattle.text.specs.declared.cursor.Cursor.{Cursor}
use Rattle.text.specs.Line.{line_words}
use Rattle.text.specs.Cursors.{left, LineTaken}
use Rattle.dialect.specs.declared.Dialect.{Dialect}
use Rattle.dialect.specs.Dialects.{line_in, lines_in}
use Rattle.gates.specs.declared.GateNumbers.{GateNumbers}
use Rattle.gates.specs.Numbers.{gate_said, Names}
use Rattle.reader.specs.Marks.{Marks}

-- the line at c is the gate g in a dialect, and the lines after it follow its result
pub record Admitted (d : Dialect) (c : Cursor) (n W : ℕ) (results given : List ℕ) (g : Gate) (to : Cursor) : Type 0
  where
    pub same : (ls : List (List (List ℕ)))
        → gate_lines n W results (line_in d (line_words (left c)) ∷ ls)
        ≡ (and_then (gate_lines n W (result g ∷ results) ls) λ gs. done (g ∷ gs))
    pub marks : Marks given n W (result g ∷ results)
    pub names : Names W g
    pub next : LineTaken c to

-- the line is refused, whatever follows it
pub record RefusedAt (d : Dialect) (c : Cursor) (n W : ℕ) (results : List ℕ) (q : ℕ) : Type 0 where
  pub same : (ls : List (List (List ℕ))) → gate_lines n W results (line_in d (line_words (left c)) ∷ ls) ≡ refused q

-- questions 7 to 9 of one line, after lines with these results
abbrev pub GateStepIs : Dialect → Cursor → ℕ → ℕ → List ℕ → List ℕ → Result (GateNumbers × Cursor) Refusal → Type 0
GateStepIs d c n W results given (Ok (g, to)) = Admitted d c n W results given (gate_said g) to
GateStepIs d c n W results given (Err q) = RefusedAt d c n W results (number_of q)

-- question 6 of the lines, and then 7 to 9
abbrev pub ask_lines : Dialect → ℕ → ℕ → ℕ → List (List (List ℕ)) → Outcome (List Gate)
ask_lines d count n W ls = ask 6 (eqb (length ls) count) (gate_lines n W [] (lines_in d ls))

-- the lines of t are the tables' gates
pub record GatesRead (d : Dialect) (t : List ℕ) (count n W : ℕ) (tabs : Tables) : Type 0 where
  pub lines : ask_lines d count n W (word_lines t) ≡ done (gates_of tabs count)
  pub wired : Wired tabs W count

pub record GatesNot (d : Dialect) (t : List ℕ) (count n W q : ℕ) : Type 0 where
  pub refuses : ask_lines d count n W (word_lines t) ≡ refused q

abbrev pub GatesIs : Dialect → List ℕ → ℕ → ℕ → ℕ → Tables → Result Unit Refusal → Type 0
GatesIs d t count n W tabs (Ok u) = GatesRead d t count n W tabs
GatesIs d t count n W tabs (Err q) = GatesNot d t count n W (number_of q)
