-- Rows of steps from an opening, each given the session and lists just as the one before left them, and what the lists
-- hold.
use Rattle.std.specs.Prelude.{ℕ, ◌+◌, ◌≤◌, ◌<◌, ◌≡◌, List, [], ◌∷◌, map, length, get_or, take}
use Rattle.netlist.specs.declared.Gate.{Gate}
use Rattle.netlist.specs.declared.Sizes.{Sizes}
use Rattle.netlist.specs.Netlist.{source_limits, result}
use Rattle.gates.specs.declared.records.GateRecord.{GateRecord}
use Rattle.gates.specs.Records.{record_of, blank_source, gate_in}
use Rattle.session.specs.Afresh.{afresh, following}
use Rattle.session.specs.Asked.{adding, taking_off}
use Rattle.session.specs.Lists.{Lists, present, add_outcome, off_outcome, left}

pub data Move : Type 0 where
  add : GateRecord → Move
  take_off : Move

-- a step of a session with its lists
abbrev pub stepped : Sizes → List ℕ → Lists → Move → Lists
stepped z codes L (add r) = left L (add_outcome z codes L r)
stepped z codes L take_off = left L (off_outcome L)

abbrev pub stepped_all : Sizes → List ℕ → Lists → List Move → Lists
stepped_all z codes L [] = L
stepped_all z codes L (m ∷ ms) = stepped_all z codes (stepped z codes L m) ms

-- the present list of source gates after a step and after a row, with the lengths of the two lists
abbrev pub presents : Sizes → List ℕ → ℕ → ℕ → List Gate → Move → List Gate
presents z codes places room gs (add r) = left gs (adding z codes places room gs r)
presents z codes places room gs take_off = left gs (taking_off gs)

abbrev pub presents_all : Sizes → List ℕ → ℕ → ℕ → List Gate → List Move → List Gate
presents_all z codes places room gs [] = gs
presents_all z codes places room gs (m ∷ ms) = presents_all z codes places room (presents z codes places room gs m) ms

-- wire numbers rise by one: the gates give the wires from w on
abbrev pub Rising : ℕ → List Gate → Type 0
Rising w [] = Unit {0}
Rising w (g ∷ gs) = (result g ≡ w) × Rising (w + 1) gs

-- the session and its lists hold the source gates gs, under input codes, and their masked gates
pub record Holds (z : Sizes) (codes : List ℕ) (gs : List Gate) (L : Lists) : Type 0 where
  pub gates : L.session.gates ≡ length gs
  pub masked : L.session.masked ≡ length (afresh codes gs)
  pub sources : take (length gs) (map gate_in L.source) ≡ map record_of gs
  -- the masked gates are those of masking the gates afresh
  pub maskeds : take (length (afresh codes gs)) L.masked ≡ map record_of (afresh codes gs)
  -- each source wire's twin is the one of the masking steps
  pub twins : take (length codes + length gs) (present codes L).twins ≡ (following codes gs).twins
  -- each record knows how many masked gates stand before its own
  pub froms : (i : ℕ) → i < length gs → (get_or L.source i blank_source).from ≡ length (afresh codes (take i gs))
  pub rising : Rising (length codes) gs
  pub within : length codes + length gs ≤ (source_limits z).wires
