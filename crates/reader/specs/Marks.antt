-- The table of given wires: entry x is 1 where wire x is an input or the result of an earlier line (questions 8 and 9).
use Rattle.std.specs.Prelude.{ℕ, ◌<◌, ◌≤◌, ◌≡◌, Bool, List, eqb, length, get_or}
use Rattle.netlist.specs.Read.{is_given}
use Rattle.netlist.specs.Lists.{All}

unfoldable pub marked : List ℕ → ℕ → Bool
marked table x = eqb (get_or table x 0) 1

-- the table marks the n inputs and the results so far, all of which lie below W
pub record Marks (table : List ℕ) (n W : ℕ) (results : List ℕ) : Type 0 where
  pub each : (x : ℕ) → marked table x ≡ is_given n results x
  pub inputs : n ≤ W
  pub below : All (λ r. r < W) results
  pub room : W ≤ length table
