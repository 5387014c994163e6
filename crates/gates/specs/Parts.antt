-- A gate's two entries, taken apart.
use Rattle.std.specs.Prelude.{ℕ, ◌/◌, ◌%◌, ◌<◌}
use Rattle.netlist.specs.declared.Gate.{Gate}
use Rattle.netlist.specs.Table.{gate_of, half}
use Rattle.gates.specs.declared.Parts.{Parts}

abbrev pub parts_of : ℕ → ℕ → Parts
parts_of o r = record { left = o % half; right = o / half; result = r % half; kind = r / half }

-- the gate of such parts
abbrev pub gate_by : Parts → Gate
gate_by p = gate_of p.kind p.left p.right p.result

-- they name wires below W, and a kind below 8
pub record Within (W : ℕ) (p : Parts) : Type 0 where
  pub kind : p.kind < 8
  pub left : p.left < W
  pub right : p.right < W
  pub result : p.result < W
