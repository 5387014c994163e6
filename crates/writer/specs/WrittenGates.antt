-- Gates written as lines.
use Rattle.std.specs.Prelude.{ℕ, List}
use Rattle.netlist.specs.declared.Gate.{Gate}
use Rattle.netlist.specs.Write.{gate_text}
use Rattle.writer.specs.Wrote.{Wrote}

-- the lines of gs were written into e from the place at on, and gave x; r is the next place
pub record WroteGates (e : List ℕ) (at : ℕ) (gs : List Gate) (x : List ℕ) (r : ℕ) : Type 0 where
  pub wrote : Wrote e at (gate_text gs) x r
