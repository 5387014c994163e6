-- The numbers of a seam, and its joined wires.
use Rattle.std.specs.Prelude.{ℕ, ◌+◌, ◌-◌, ◌≤◌, ◌<◌, ◌≡◌}
use Rattle.netlist.specs.Table.{half}

-- the joined W, of a first of W wires, and a second of V wires, n of which are inputs
abbrev pub joined_wires : ℕ → ℕ → ℕ → ℕ
joined_wires W V n = W + V - n

-- the numbers of a seam where the first's outputs and a mask pair are the second's inputs, and joined wires fit half an
-- entry: W wires of the first, o of which are outputs and i inputs, and V wires of the second, n of which are inputs
pub record Meeting (W o i V n : ℕ) : Type 0 where
  pub outs : o ≤ W
  pub pair : 2 ≤ i
  pub ins : i ≤ W
  pub meets : o + 2 ≡ n
  pub inner : n ≤ V
  pub fits : joined_wires W V n < half
