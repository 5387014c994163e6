-- The twins of all source wires.
use Rattle.std.specs.Prelude.{ℕ, ◌+◌, ◌*◌, ◌^◌, ◌≤◌, ◌<◌, ◌≡◌, List, length}
use Rattle.netlist.specs.Netlist.{Netlist}
use Rattle.netlist.specs.Table.{Tables, Wired, Holds}
use Rattle.masking.specs.Mask.{finish}
use Rattle.mask_rule.specs.State.{state_of}

-- what a pass relies on: the gate tables t name the wires of the tables ws and es, there are no more input codes cs and
-- wanted codes vs than wires, and wire numbers stay small
pub record Ready (t : Tables) (count : ℕ) (cs vs ws es : List ℕ) : Type 0 where
  pub wired : Wired t (length ws) count
  pub codes : length es ≡ length ws
  pub ins : length cs ≤ length ws
  pub outs : length vs ≤ length ws
  pub small : length ws + 8 * count < 2 ^ 29

-- the tables ws and es hold the twins after all source gates, r the next wire, for every netlist that the gate tables t
-- hold, and wire numbers have stayed small
pub record Finished (t : Tables) (count : ℕ) (cs : List ℕ) (W r : ℕ) (ws es : List ℕ) : Type 0 where
  pub state : {m : ℕ} (N : Netlist) → Holds t count W (length cs) m N → state_of r ws es ≡ finish N cs
  pub grown : r ≤ length cs + 5 + length cs + 8 * count
