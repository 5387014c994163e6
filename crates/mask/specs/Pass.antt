-- One pass over a source netlist.
use Rattle.std.specs.Prelude.{ℕ, ◌+◌, ◌-◌, ◌≡◌, List, length, drop}
use Rattle.masking.specs.Mask.{Masked}
use Rattle.writer.specs.WrittenGates.{WroteGates}
use Rattle.mask.specs.State.{codes_of}

-- the gates of the masked netlist M were written: r has the next place, and the next wire, which is its wire count, n +
-- 2 more than its gates, and the table es of the codes gives the output codes
pub record WrotePass (e : List ℕ) (at : ℕ) (M : Masked) (n : ℕ) (vs x : List ℕ) (r : ℕ × ℕ) (es : List ℕ) : Type 0 where
  pub wrote : WroteGates e at M.netlist.gates x r.0
  pub wires : r.1 ≡ M.netlist.wires
  pub count : length M.netlist.gates + (n + 2) ≡ M.netlist.wires
  pub codes : codes_of (drop (length es - length vs) es) vs ≡ M.codes
  pub many : length M.codes ≡ length vs

-- the wire count r of the masked netlist M, n + 2 more than its gates; it has m output codes
pub record Counted (M : Masked) (n m r : ℕ) : Type 0 where
  pub wires : r ≡ M.netlist.wires
  pub count : length M.netlist.gates + (n + 2) ≡ M.netlist.wires
  pub many : length M.codes ≡ m
