-- What is known of the items that were judged.
use Rattle.std.specs.Prelude.{ℕ, ◌+◌, ◌-◌, ◌*◌, ◌/◌, ◌≤◌, ◌<◌, true, List, ◌≡◌, T, length, get_or}
use Rattle.netlist.specs.Netlist.{Netlist}
use Rattle.netlist.specs.Table.{Tables, Holds}
use Rattle.gates.specs.Gates.{tables_of}
use Rattle.check_pairs.specs.Pairs.{clean_pair}
use Rattle.check_wide.specs.Rule.{Level}
use Rattle.check_wide.specs.Sets.{reach_set}
use Rattle.check_wide.specs.Packed.{Sets, set_at}
use Rattle.check_wide.specs.WireSets.{sets_of}
use Rattle.check_wide.specs.declared.job.Job.{Job}
use Rattle.check_wide.specs.Items.{is_marked}

-- the tables hold a netlist, and the sets of its wires
pub record Given (t : Tables) (m W n : ℕ) (S : Sets) (o : ℕ) (N : Netlist) : Type 0 where
  pub holds : Holds t m W (n + 2) o N
  pub each : (w : ℕ) → w < W → set_at S w ≡ reach_set N n w

-- so do those of a search
abbrev pub GivenJob : Job → ℕ → ℕ → Netlist → Type 0
GivenJob j W o N = Given (tables_of j.gates) j.gates.count W (length j.codes.list.now) (sets_of j.items.sets) o N

-- pair j of a list passes the test
abbrev pub CleanAt : Netlist → List ℕ → List ℕ → ℕ → Type 0
CleanAt N codes ws j = T (clean_pair N codes (get_or ws (2 * j) 0) (get_or ws (2 * j + 1) 0))

-- item x meets the rule, unless it is not before the lowest wire, or the first pair, that does not
pub record Judged (N : Netlist) (codes ws : List ℕ) (W wire pair x : ℕ) : Type 0 where
  pub level : x < W → x < wire → Level N codes x
  pub clean : W ≤ x → x - W < pair → CleanAt N codes ws (x - W)

-- so do the items before `start`, those that are marked, and those from `start` + x to `start` + count
pub record Judging (N : Netlist) (codes ws marks : List ℕ) (W start count x wire pair : ℕ) : Type 0 where
  pub wires : wire ≤ W
  pub pairs : pair ≤ length ws / 2
  pub leaks : wire < W → Level N codes wire → ⊥
  pub bad : pair < length ws / 2 → CleanAt N codes ws pair → ⊥
  pub before : (y : ℕ) → y < start → Judged N codes ws W wire pair y
  pub marked : (y : ℕ) → y < count → is_marked marks y ≡ true → Judged N codes ws W wire pair (start + y)
  pub done : (y : ℕ) → x ≤ y → y < count → Judged N codes ws W wire pair (start + y)

-- the lowest wire and the first pair that do not meet the rule, or the numbers of wires and pairs
pub record Lowest (N : Netlist) (codes ws : List ℕ) (W wire pair : ℕ) : Type 0 where
  pub wires : wire ≤ W
  pub pairs : pair ≤ length ws / 2
  pub leaks : wire < W → Level N codes wire → ⊥
  pub bad : pair < length ws / 2 → CleanAt N codes ws pair → ⊥
  pub level : (w : ℕ) → w < wire → Level N codes w
  pub clean : (j : ℕ) → j < pair → CleanAt N codes ws j
