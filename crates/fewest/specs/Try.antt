-- One choice of the search, in tables.
use Rattle.std.specs.Prelude.{ℕ, suc, ◌+◌, ◌-◌, ◌/◌, ◌%◌, ◌≤◌, ◌<◌, Bool, true, false, cond, List, ◌⊎◌, ◌≡◌, eqb, ltb}
use Rattle.std.specs.Prelude.{length, get_or, drop}
use Rattle.netlist.specs.Table.{Tables, half, Wired}
use Rattle.fewest.specs.Codes.{code_at, end_changes}
use Rattle.fewest.specs.Walk.{Walked}
use Rattle.fewest.specs.Ends.{Filled}
use Rattle.fewest.specs.declared.choice.Tried.{Tried}
use Rattle.netlist.specs.declared.Sizes.TheVariants.{Whole}
use Rattle.netlist.specs.Netlist.{small_wires}

-- the gate tables t and the tables of ways, codes and least changes are long enough for a netlist of so many inputs and
-- gates
pub record Fits (t : Tables) (count : ℕ) (codes wanted way best code lows : List ℕ) : Type 0 where
  pub wired : Wired t (length code) count
  pub places : length codes + count ≡ length code
  pub some : 1 ≤ length codes
  pub outs : length wanted ≤ length code
  pub small : length code ≤ small_wires Whole
  pub ways : length way ≡ length code
  pub bests : length best ≡ length code
  pub lowest : length lows ≡ length code

-- the operands of the gate of a place after n inputs have equal codes
abbrev pub idle_at : List ℕ → ℕ → ℕ → List ℕ → Bool
idle_at operands n place u =
    cond (ltb place n) false (eqb (code_at u (get_or operands (place - n) 0 % half))
    (code_at u (get_or operands (place - n) 0 / half)))

-- the changes of a choice whose gates are all done, from the least changes before the last gate's end and the codes of
-- the outputs
abbrev pub cost_of : List ℕ → List ℕ → ℕ → List ℕ → ℕ
cost_of u b count wanted = get_or b count 0 + end_changes (drop (length u - length wanted) u) wanted

-- a choice was tried from a place on, up to gate r: from the first gate on where the place is an input's, whose codes
-- are filled in
pub record Entered (t : Tables) (count : ℕ) (codes way : List ℕ) (place bound : ℕ) (u₀ b₀ u b : List ℕ) (r : ℕ) : Type 0
  where
    pub table : List ℕ
    pub filled : place < length codes → Filled codes way (length codes) u₀ table
    pub kept : length codes ≤ place → table ≡ u₀
    pub walked : Walked t count (drop (length codes) way) (place - length codes) bound table b₀ u b r

-- the choice costs what one before it cost
pub record Idles (t : Tables) (codes : List ℕ) (place least : ℕ) (best₀ u₀ b₀ best u b : List ℕ) (r : Tried) : Type 0
  where
    pub equal : idle_at t.operands (length codes) place u₀ ≡ true
    pub stop : r.stop ≡ suc (place - length codes)
    pub least-same : r.least ≡ least
    pub best-same : best ≡ best₀
    pub code_same : u ≡ u₀
    pub low_same : b ≡ b₀

-- the choice is tried: it is kept where all its gates are done and it has fewer changes
pub record Tries (t : Tables) (count : ℕ) (codes wanted way : List ℕ) (place least : ℕ) (best₀ u₀ b₀ best u b : List ℕ)
    (r : Tried) : Type 0 where
  pub entered : Entered t count codes way place least u₀ b₀ u b r.stop
  pub cut : r.stop < count → (r.least ≡ least) × (best ≡ best₀)
  pub no-fewer : r.stop ≡ count → least ≤ cost_of u b count wanted → (r.least ≡ least) × (best ≡ best₀)
  pub fewer : r.stop ≡ count → cost_of u b count wanted < least → (r.least ≡ cost_of u b count wanted) × (best ≡ way)

abbrev pub TriedIs : Tables → ℕ → List ℕ → List ℕ → List ℕ → ℕ → ℕ → List ℕ → List ℕ → List ℕ → List ℕ → List ℕ → List ℕ
    → Tried → Type 0
TriedIs t count codes wanted way place least best₀ u₀ b₀ best u b r =
    Idles t codes place least best₀ u₀ b₀ best u b r ⊎ Tries t count codes wanted way place least best₀ u₀ b₀ best u b r
