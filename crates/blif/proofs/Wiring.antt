-- Where the cells hold, so do the covers that they were made of.
use Rattle.std.proofs.Common.{◌≡◌, ℕ, ◌≤◌, Bool, List, [], ◌∷◌, ◌++◌, map, length, ap, sym, subst, ◌∙◌, append_assoc}
use Rattle.std.proofs.lemmas.List.{append-nil}
use Rattle.std.specs.List.{All, Contains}
use Rattle.std.proofs.lemmas.List.{length-map}
use Rattle.std.proofs.lemmas.List.Elements.{All-contains, All-weaker, Contains-append_left, Contains-push}
use Rattle.cells.specs.declared.build.Cell.{Cell}
use Rattle.cells.specs.Computes.{Computes}
use Rattle.cells.specs.Netlists.{wire_at, CellHolds}
use Rattle.cells.proofs.CoverLaw.{TableOf, cover_law}
use Rattle.blif.specs.declared.statements.Names.{Names}
use Rattle.blif.specs.declared.statements.Statement.{Statement}
use Rattle.blif.specs.declared.statements.Statement.TheVariants.{OfNames, OfModel}
use Rattle.blif.specs.Meaning.{SaysCover, HasStatement, CoverHolds, StatementHolds, Adds, AddsCover}

cover_holds : (u : ℕ → Bool) (wires : List ℕ) (n : Names) (c : Cell) → SaysCover n c → CellHolds u wires c → CoverHolds u wires n
cover_holds u wires n c says holds =
    let at = map (wire_at wires) n.inputs.items in
    let long : length at ≡ length n.inputs.items = length-map n.inputs.items (wire_at wires) in
    let few : length at ≤ 6 = subst (λ (k : ℕ). k ≤ 6) (sym long) says.few in
    let table : TableOf n.cover c.table (length at) = subst (λ (k : ℕ). TableOf n.cover c.table k) (sym long) says.table in
    let inputs = subst (λ (is : List ℕ). Computes u (map (wire_at wires) is) c.table (wire_at wires c.output)) says.inputs holds in
    let output = subst (λ (o : ℕ). Computes u at c.table (wire_at wires o)) says.output inputs in
    cover_law u n.cover c.table (wire_at wires n.output) at few table output

statement_holds : (u : ℕ → Bool) (wires : List ℕ) (cells : List Cell) → All (CellHolds u wires) cells
    → (s : Statement) → HasStatement cells s → StatementHolds u wires s
statement_holds u wires cells all (OfNames n) (c, says, in') =
    cover_holds u wires n c says (All-contains (CellHolds u wires) cells c all in')
statement_holds u wires cells all (OfModel i) has = tt

-- all statements hold where all cells do
pub statements_hold : (u : ℕ → Bool) (wires : List ℕ) (cells : List Cell) (ss : List Statement) → All (CellHolds u wires) cells
    → All (HasStatement cells) ss → All (StatementHolds u wires) ss
statements_hold u wires cells ss all has =
    All-weaker (HasStatement cells) (StatementHolds u wires) (statement_holds u wires cells all) ss has

grown : (old new : List Cell) → Adds old new → (s : Statement) → HasStatement old s → HasStatement new s
grown old new (more, e) (OfNames n) (c, says, in') =
    (c, says, subst (λ (cs : List Cell). Contains cs c) (sym e) (Contains-append_left old more c in'))
grown old new adds (OfModel i) has = tt

-- statements that are had stay so when cells are added
pub all_grown : (old new : List Cell) (ss : List Statement) → Adds old new → All (HasStatement old) ss → All (HasStatement new) ss
all_grown old new ss adds has = All-weaker (HasStatement old) (HasStatement new) (grown old new adds) ss has

-- a cell that is pushed is had
pub pushed : (old new : List Cell) (n : Names) (c : Cell) → SaysCover n c → new ≡ old ++ c ∷ [] → HasStatement new (OfNames n)
pushed old new n c says e = (c, says, subst (λ (cs : List Cell). Contains cs c) (sym e) (Contains-push old c))

pub adds_none : (cs : List Cell) → Adds cs cs
adds_none cs = ([], sym (append-nil cs))

pub adds_one : (old new : List Cell) (c : Cell) → new ≡ old ++ c ∷ [] → Adds old new
adds_one old new c e = (c ∷ [], e)

pub adds_both : (old mid new : List Cell) → Adds old mid → Adds mid new → Adds old new
adds_both old mid new (more, e) (rest, f) =
    (more ++ rest, f ∙ ap (λ (cs : List Cell). cs ++ rest) e ∙ append_assoc old more rest)

-- the cell of a cover is had where it was added
pub had_cover : (n : Names) (old new : List Cell) → AddsCover n old new → HasStatement new (OfNames n)
had_cover n old new (c, says, e) = pushed old new n c says e
