-- Gates in tables, after those of a first netlist and on their joined wires.
use Rattle.std.specs.Prelude.{ℕ, ◌+◌, ◌++◌, map, ◌≡◌, length}
use Rattle.netlist.specs.Table.{Tables, gates_of, Wired}
use Rattle.join.specs.Join.{moved_wire, renumbered}
use Rattle.join.specs.Seams.{joined_wires}
use Rattle.join.specs.declared.seam.SeamNumbers.{SeamNumbers}

-- the joined W
abbrev pub wires_of : SeamNumbers → ℕ
wires_of s = joined_wires s.wires s.second s.inner

-- where a wire of the second goes
abbrev pub goes_to : SeamNumbers → ℕ → ℕ
goes_to s = moved_wire s.wires s.outs s.ins s.inner

-- after the first m gates of t, the k gates of v were put, on their joined wires
pub record Appended (s : SeamNumbers) (t : Tables) (m : ℕ) (v : Tables) (k : ℕ) (u : Tables) : Type 0 where
  pub gates : gates_of u (m + k) ≡ gates_of t m ++ map (renumbered (goes_to s)) (gates_of v k)
  pub wired : Wired u (wires_of s) (m + k)
  pub operands : length u.operands ≡ length t.operands
  pub results : length u.results ≡ length t.results
