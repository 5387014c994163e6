-- What the covers of a model say of the bits of its nets.
use Rattle.std.specs.Prelude.{ℕ, ◌<◌, ◌≤◌, ◌≡◌, Bool, List, [], ◌∷◌, ◌++◌, map, take, length, Contains}
use Rattle.cells.specs.declared.build.Cell.{Cell}
use Rattle.cells.specs.Tables.{table_bit}
use Rattle.cells.specs.Covers.{cover_bit}
use Rattle.cells.specs.Computes.{input_tables}
use Rattle.cells.specs.Netlists.{wire_at}
use Rattle.blif.specs.declared.statements.Names.{Names}
use Rattle.blif.specs.declared.statements.Statement.{Statement}
use Rattle.blif.specs.declared.statements.Statement.TheVariants.{OfNames, OfModel}

-- a cell gives the net that a cover gives, reads the nets that it reads, and has its table
pub record SaysCover (n : Names) (c : Cell) : Type 0 where
  pub output : c.output ≡ n.output
  pub inputs : c.inputs.items ≡ n.inputs.items
  pub few : length n.inputs.items ≤ 6
  pub table : (j : ℕ) → j < 64 → table_bit c.table j
      ≡ cover_bit n.cover (map (λ t. table_bit t j) (take (length n.inputs.items) input_tables))

-- one of the cells says what a cover says
abbrev pub HasCover : List Cell → Names → Type 0
HasCover cells n = (c : Cell) × SaysCover n c × Contains cells c

abbrev pub HasStatement : List Cell → Statement → Type 0
HasStatement cells (OfNames n) = HasCover cells n
HasStatement cells (OfModel i) = Unit {0}

-- the wire of the net that a cover gives has the bit that the cover says, of the bits of the wires of the nets that it
-- reads
abbrev pub CoverHolds : (ℕ → Bool) → List ℕ → Names → Type 0
CoverHolds u wires n = u (wire_at wires n.output) ≡ cover_bit n.cover (map u (map (wire_at wires) n.inputs.items))

abbrev pub StatementHolds : (ℕ → Bool) → List ℕ → Statement → Type 0
StatementHolds u wires (OfNames n) = CoverHolds u wires n
StatementHolds u wires (OfModel i) = Unit {0}

-- the new cells are the old ones and more
abbrev pub Adds : List Cell → List Cell → Type 0
Adds old new = (more : List Cell) × (new ≡ old ++ more)

-- the new cells are the old ones and one that says what a cover says
abbrev pub AddsCover : Names → List Cell → List Cell → Type 0
AddsCover n old new = (c : Cell) × SaysCover n c × (new ≡ old ++ c ∷ [])
