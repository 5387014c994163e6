-- The search for the first choice with the fewest changes.
use Rattle.std.specs.Prelude.{ℕ, ◌+◌, ◌-◌, ◌^◌, List, ◌≡◌, length, set, replicate}
use Rattle.netlist.specs.Netlist.{Netlist}
use Rattle.netlist.specs.Read.{WellFormed}
use Rattle.netlist.specs.Table.{Tables, gates_of, Holds}
use Rattle.fewest.specs.Choice.{Agree, choice as choice_number}
use Rattle.fewest.specs.Fewest.{twices, changes_at, given, floor as floor_of}
use Rattle.fewest.specs.Advance.{ways_at, choice_of}
use Rattle.fewest.specs.Span.{Spanned}
use Rattle.fewest.specs.declared.search.Tally.{Tally}
use Rattle.fewest.specs.Try.{Fits, cost_of, Entered}

-- a netlist of W wires that questions 4 to 9 admit and the gate tables hold
pub record Source (t : Tables) (count : ℕ) (codes wanted : List ℕ) (W : ℕ) (N : Netlist) : Type 0 where
  pub formed : WellFormed N
  pub holds : Holds t count W (length codes) (length wanted) N

-- what the search relies on: tables that are long enough, and hold such a netlist
pub record Searchable (t : Tables) (count : ℕ) (codes wanted way best code lows spans : List ℕ) : Type 0 where
  pub fits : Fits t count codes wanted way best code lows
  pub spanned : length spans ≡ length code
  pub netlist : Netlist
  pub source : Source t count codes wanted (length code) netlist

-- the first choice was tried, and has c changes
pub record Begun (t : Tables) (count : ℕ) (codes wanted way₀ u₀ b₀ s₀ way best u b s : List ℕ) (c : ℕ) : Type 0 where
  pub first : way ≡ replicate (length way₀) 0
  pub spans : Spanned (ways_at codes t.results) (length codes + count) s₀ s
  pub entered : Entered t count codes way 0 (2 ^ 32 - 1) u₀ (set b₀ 0 (twices (gates_of t count))) u b count
  pub kept : best ≡ way
  pub cost : c ≡ cost_of u b count wanted

-- the choice that is given, in a table of ways, its changes and the floor
pub record Found (N : Netlist) (codes wanted : List ℕ) (budget : ℕ) (best : List ℕ) (r : Tally) : Type 0 where
  pub choice : Agree N.wires (choice_of best) (choice_number N codes (given N codes wanted budget))
  pub changes : r.changes ≡ changes_at N codes wanted (given N codes wanted budget)
  pub floor : r.floor ≡ floor_of N codes wanted budget
