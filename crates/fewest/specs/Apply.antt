-- A choice put to use, in tables.
use Rattle.std.specs.Prelude.{ℕ, ◌%◌, ◌/◌, ◌≤◌, ◌<◌, List, ◌≡◌, length, get_or}
use Rattle.netlist.specs.Table.{half, gate_in}
use Rattle.fewest.specs.Choice.{chosen_gate}
use Rattle.fewest.specs.Ends.{free_code, FilledBy}

-- the entry o of a gate's operands becomes r: the gate is the one of its way d, and it names the same wires
pub record SwapsEntry (d o r' r : ℕ) : Type 0 where
  pub gate : gate_in r r' ≡ chosen_gate d (gate_in o r')
  pub left : (W : ℕ) → o % half < W → o / half < W → r % half < W
  pub right : (W : ℕ) → o % half < W → o / half < W → r / half < W

-- the first i gates are each those of its way
pub record Swapped (r : List ℕ) (i : ℕ) (ways o₀ o : List ℕ) : Type 0 where
  pub each : (j : ℕ) → j < i → SwapsEntry (get_or ways j 0) (get_or o₀ j 0) (get_or r j 0) (get_or o j 0)
  pub kept : (j : ℕ) → i ≤ j → get_or o j 0 ≡ get_or o₀ j 0
  pub size : length o ≡ length o₀

-- the codes of the first i inputs are filled in
abbrev pub Chosen : List ℕ → List ℕ → ℕ → List ℕ → List ℕ → Type 0
Chosen codes way i u₀ u = FilledBy free_code codes way i u₀ u
