-- What the answers on output lines mean.
use Rattle.std.specs.Prelude.{ℕ, Option, Some, None, ◌+◌, ◌/◌, ◌^◌, ◌<◌, ◌≤◌, ◌≡◌, Bool, true, cond, List, ◌++◌, map}
use Rattle.std.specs.Prelude.{ltb, length, take, drop, get_or, set}
use Rattle.std.proofs.Math.Option.{some}
use Rattle.netlist.specs.declared.Gate.{Gate}
use Rattle.netlist.specs.Lists.{every, member}
use Rattle.netlist.specs.Table.{Tables, tables}
use Rattle.from_aiger.specs.declared.lines.Lines.{Lines}
use Rattle.aiger.specs.File.{Literal, literal}
use Rattle.aiger.specs.Lines.{output_line, formed}
use Rattle.aiger.specs.Rules.{readable}
use Rattle.aiger.specs.Made.{wire_at, out_gates}
use Rattle.from_aiger.specs.LineAnswers.{lines_left}
use Rattle.from_aiger.specs.Places.{Places, Keeps, Standing}

-- the first of some lines put out these literals
pub record LiteralsAt (ls : List (List (List ℕ))) (lines : ℕ) (are : List Literal) (left : List (List (List ℕ))) : Type
    0 where
  pub form : formed output_line lines ls ≡ some are
  pub next : left ≡ drop lines ls

-- ---- literals in a table

-- numbers of 32 bits
abbrev pub Low : List ℕ → Type 0
Low kept = (i : ℕ) → i < length kept → get_or kept i 0 < 2 ^ 32

-- as many lines as the table has entries, which are their literals
abbrev pub KeptIs : List (List (List ℕ)) → List ℕ → Option Lines → Type 0
KeptIs ls kept (Some l) = LiteralsAt ls (length kept) (map literal kept) (lines_left l) × Low kept
KeptIs ls kept None = (xs : List Literal) → formed output_line (length kept) ls ≡ some xs → ⊥

-- each is a constant, or of a variable that has a wire
abbrev pub HaveWires : List ℕ → List ℕ → Type 0
HaveWires table kept = (i : ℕ) → i < length kept → 2 ≤ get_or kept i 0 → 1 ≤ get_or table (get_or kept i 0 / 2) 0

-- the gates of literals that can be read stand after the others
abbrev pub OutputsPut : List ℕ → Tables → Tables → ℕ → ℕ → List ℕ → Type 0
OutputsPut table t u n before kept = (given wires : List ℕ) (gs : List Gate) → Standing table t n before given wires gs
    → every (readable given) (map literal kept) ≡ true
    → Standing table u n (before + length kept) given wires (gs ++ out_gates (wire_at wires) (n + before)
    (map literal kept))

-- whether the literals after a front can be read, and then all gates, if there is room for them
pub record OutputsIs (table o r : List ℕ) (u : Tables) (room n count : ℕ) (answer : Bool) : Type 0 where
  pub read : (given wires : List ℕ) → Places table given wires → answer
      ≡ every (readable given) (map literal (drop room r))
  pub keeps : answer ≡ true → (given wires : List ℕ) (gs : List Gate) → Standing table (tables o (take room r)) n count
      given wires gs
      → Keeps u (n + (count + length (drop room r))) (gs ++ out_gates (wire_at wires) (n + count)
      (map literal (drop room r)))

-- ---- marks on variables

-- one mark more, for a literal that is no constant
abbrev pub marked : List ℕ → ℕ → List ℕ
marked marks x = cond (ltb x 2) marks (set marks (x / 2) 1)

-- every variable with a mark, up to M, is given
abbrev pub AllGiven : ℕ → List ℕ → List ℕ → Type 0
AllGiven M marks given = (v : ℕ) → v ≤ M → 1 ≤ get_or marks v 0 → member v given ≡ true

-- the marks stand on the variables that literals put out
pub record PutOut (M : ℕ) (marks : List ℕ) (are : List Literal) : Type 0 where
  pub needed : (given : List ℕ) → every (readable given) are ≡ true → AllGiven M marks given
  pub enough : (given : List ℕ) → AllGiven M marks given → every (readable given) are ≡ true

-- none of some variables is above M
abbrev pub UpTo : ℕ → List ℕ → Type 0
UpTo M given = (v : ℕ) → member v given ≡ true → v ≤ M

-- so many lines, whose variables have marks
pub record MarksAt (ls : List (List (List ℕ))) (lines M : ℕ) (marks : List ℕ) (left : List (List (List ℕ))) : Type 0
  where
    pub are : List Literal
    pub literals : LiteralsAt ls lines are left
    pub out : PutOut M marks are

abbrev pub MarksIs : List (List (List ℕ)) → ℕ → ℕ → List ℕ → Option Lines → Type 0
MarksIs ls lines M marks (Some l) = MarksAt ls lines M marks (lines_left l)
MarksIs ls lines M marks None = (xs : List Literal) → formed output_line lines ls ≡ some xs
    → (given : List ℕ) → UpTo M given → every (readable given) xs ≡ true → ⊥
