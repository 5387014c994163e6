-- From one choice to the next, in the table of ways.
use Rattle.std.specs.Prelude.{ℕ, suc, ◌-◌, ◌/◌, ◌≤◌, ◌<◌, cond, List, ◌≡◌, eqb, ltb, length, get_or, Option, Some, None}
use Rattle.netlist.specs.Table.{half}
use Rattle.fewest.specs.Choice.{Choice, input_ways}
use Rattle.fewest.specs.Codes.{moved}

-- the ways of place p: the inputs by their codes, then the gates by their kinds, 2 being AND
abbrev pub ways_at : List ℕ → List ℕ → ℕ → ℕ
ways_at codes results p =
    cond (ltb p (length codes)) (input_ways (get_or codes p 0))
    (cond (eqb (get_or results (p - length codes) 0 / half) 2) 2 1)

-- the choice of a table of ways
abbrev pub choice_of : List ℕ → Choice
choice_of way p = get_or way p 0

-- one more than the place that moved, or 0 where none did
abbrev pub following : Option ℕ → ℕ
following (Some p) = suc p
following None = 0

-- with w ways of each of the first P places: r is 0 where every place takes its last way, otherwise one more than the
-- last place that does not; there the choice has moved. The places from P on are kept
pub record Advanced (w : ℕ → ℕ) (P : ℕ) (way₀ way : List ℕ) (r : ℕ) : Type 0 where
  pub within : r ≤ P
  pub last : (q : ℕ) → r ≤ q → q < P → w q ≤ suc (choice_of way₀ q)
  pub further : (p : ℕ) → r ≡ suc p → suc (choice_of way₀ p) < w p
  pub moves : (p : ℕ) → r ≡ suc p → (q : ℕ) → q < P → choice_of way q ≡ moved (choice_of way₀) p q
  pub kept : (q : ℕ) → P ≤ q → choice_of way q ≡ choice_of way₀ q
  pub size : length way ≡ length way₀
