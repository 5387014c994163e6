-- The sets of all wires, line by line.
use Rattle.std.specs.Prelude.{ℕ, ◌≤◌, ◌<◌, Bool, true, false, List, ◌≡◌, Option, Some, None, length}
use Rattle.netlist.specs.Netlist.{Netlist}
use Rattle.check_wide.specs.Sets.{merge, reach_set}
use Rattle.check_wide.specs.Packed.{Sets, set_at, Put}

-- the set of a wire below W is that of two wires together
abbrev pub OneOf : Sets → ℕ → ℕ → ℕ → Option ℕ → Type 0
OneOf S W a b (Some w) = (w < W) × (merge (set_at S a) (set_at S b) ≡ set_at S w)
OneOf S W a b None = Unit

-- a list of at most twelve became the set of wire c, or it is longer
pub record Lined (S S' : Sets) (c : ℕ) (is : List ℕ) (r : Bool) : Type 0 where
  pub put : r ≡ true → Put S S' c is
  pub many : r ≡ false → 12 < length is

-- the tables hold, for each wire of a netlist, those of its first n inputs that reach it; or more than twelve reach
-- some wire
pub record Reached (N : Netlist) (n : ℕ) (S : Sets) (r : Bool) : Type 0 where
  pub each : r ≡ true → (w : ℕ) → w < N.wires → set_at S w ≡ reach_set N n w
  pub many : r ≡ false → ((w : ℕ) → w < N.wires → length (reach_set N n w) ≤ 12) → ⊥
