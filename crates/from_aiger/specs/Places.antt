-- What the lent tables hold while a file is read.
use Rattle.std.specs.Prelude.{ℕ, ◌+◌, ◌≤◌, ◌≡◌, true, cond, List, [], ◌∷◌, ◌++◌, length, get_or}
use Rattle.netlist.specs.declared.Gate.{Gate}
use Rattle.netlist.specs.Lists.{member}
use Rattle.netlist.specs.Table.{Tables, gates_of, Wired}
use Rattle.gates.specs.Numbers.{Names}
use Rattle.aiger.specs.File.{literal, line_of}
use Rattle.aiger.specs.Rules.{readable}
use Rattle.aiger.specs.Made.{Made, Located, wire_at, operand, and_made, out_gate}

-- one more than its wire where a variable is given, otherwise 0
abbrev pub place_of : List ℕ → List ℕ → ℕ → ℕ
place_of given wires v = cond (member v given) (wire_at wires v + 1) 0

pub record Places (table given wires : List ℕ) : Type 0 where
  pub each : (v : ℕ) → get_or table v 0 ≡ place_of given wires v

-- the tables hold the gates, which name wires below c, unless these are more than they have room for
pub record Holding (tabs : Tables) (c : ℕ) (gs : List Gate) : Type 0 where
  pub gates : gates_of tabs (length gs) ≡ gs
  pub wired : Wired tabs c (length gs)

abbrev pub Keeps : Tables → ℕ → List Gate → Type 0
Keeps tabs c gs = length gs ≤ length tabs.operands → length gs ≤ length tabs.results → Holding tabs c gs

-- a gate put after so many others, where there is room
abbrev pub Keeping : Tables → Tables → ℕ → Gate → Type 0
Keeping t u count g = (c : ℕ) (gs : List Gate) → count ≡ length gs → Names c g → Keeps t c gs
    → Keeps u c (gs ++ (g ∷ []))

-- after n inputs and so many gates gs: the given variables have wires, and the tables keep the gates
pub record Standing (table : List ℕ) (tabs : Tables) (n count : ℕ) (given wires : List ℕ) (gs : List Gate) : Type 0
  where
    pub places : Places table given wires
    pub located : Located (wire_at wires) (n + count) given
    pub size : count ≡ length gs
    pub keeps : Keeps tabs (n + count) gs

-- the gates of an operand were added
pub record Added (table : List ℕ) (tabs : Tables) (n count : ℕ) (given wires : List ℕ) (gs : List Gate) (M : Made) :
    Type 0 where
  pub next : n + count ≡ M.next
  pub standing : Standing table tabs n count given wires (gs ++ M.gates)

-- so many gates after an operand, whose wire is one of those that stand
abbrev pub OperandIs : List ℕ → Tables → Tables → ℕ → ℕ → ℕ → ℕ → ℕ → Type 0
OperandIs table t u n count x wire next = (given wires : List ℕ) (gs : List Gate) → Standing table t n count given wires
    gs → readable given (literal x) ≡ true
    → (wire ≡ (operand (wire_at wires) (literal x) (n + count)).wire) × Added table u n next given wires gs
    (operand (wire_at wires) (literal x) (n + count))

-- so many gates after an AND line, whose wire is that of its last
abbrev pub AndIs : List ℕ → Tables → Tables → ℕ → ℕ → ℕ → ℕ → ℕ → ℕ → Type 0
AndIs table t u n count x y wire next = (given wires : List ℕ) (gs : List Gate) → Standing table t n count given wires
    gs
    → readable given (literal x) ≡ true → readable given (literal y) ≡ true → (v : ℕ)
    → (wire ≡ (and_made (wire_at wires) (line_of v x y) (n + count)).wire)
    × Added table u n next given wires gs (and_made (wire_at wires) (line_of v x y) (n + count))

-- one gate more after an output
abbrev pub OutIs : List ℕ → Tables → Tables → ℕ → ℕ → ℕ → Type 0
OutIs table t u n count x = (given wires : List ℕ) (gs : List Gate) → Standing table t n count given wires gs
    → readable given (literal x) ≡ true
    → Standing table u n (count + 1) given wires (gs ++ (out_gate (wire_at wires) (literal x) (n + count) ∷ []))
