-- The masker's state in two tables: for each source wire the wire that it stands on, and its code.
use Rattle.std.specs.Prelude.{ℕ, ◌+◌, ◌-◌, ◌*◌, ◌≤◌, ◌≡◌, List, [], ◌∷◌, ◌++◌, length, replicate}
use Rattle.netlist.specs.declared.Gate.{Gate}
use Rattle.netlist.specs.declared.Twin.{Twin}
use Rattle.netlist.specs.Table.{Tables, gates_of}
use Rattle.masking.specs.Mask.{State, no_twin, input_twins, past_publics, advance, advance_all}

abbrev pub twins_of : List ℕ → List ℕ → List Twin
twins_of [] es = []
twins_of (w ∷ ws) [] = []
twins_of (w ∷ ws) (e ∷ es) = record { wire = w; code = e } ∷ twins_of ws es

abbrev pub state_of : ℕ → List ℕ → List ℕ → State
state_of c ws es = record { next = c; twins = twins_of ws es }

-- the state before the first source gate, the gates of the public bits at the wires from c: the next wire r, and of W
-- twins those of the inputs
pub record Started (c : ℕ) (cs : List ℕ) (W r : ℕ) (ws es : List ℕ) : Type 0 where
  pub next : r ≡ past_publics c cs
  pub twins : twins_of ws es ≡ input_twins c 0 cs ++ replicate (W - length cs) no_twin

-- the state has advanced by a source gate, and by the tables' first m gates
pub record Advanced (S : State) (g : Gate) (S' : State) : Type 0 where
  pub state : S' ≡ advance S g
  pub grown : S'.next ≤ S.next + 8

pub record AdvancedAll (S : State) (t : Tables) (m : ℕ) (S' : State) : Type 0 where
  pub state : S' ≡ advance_all S (gates_of t m)
  pub grown : S'.next ≤ S.next + 8 * m
