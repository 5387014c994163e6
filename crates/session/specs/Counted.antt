-- The numbers of a session that is shown.
use Rattle.std.specs.Prelude.{ℕ, ◌+◌, ◌≤◌, ◌≡◌, List, length}
use Rattle.netlist.specs.declared.Sizes.TheVariants.{Whole}
use Rattle.netlist.specs.Lists.{sum}
use Rattle.netlist.specs.Netlist.{source_limits}
use Rattle.reader.specs.declared.header.Header.{Header}

-- the widths of the input and of the output values, and the header of so many values, of their bits, and of a wire for
-- each input bit and each gate
pub record Counted (widths outs : List ℕ) (h : Header) : Type 0 where
  pub inputs : length widths ≤ (source_limits Whole).inputs
  pub outputs : length outs ≤ (source_limits Whole).outputs
  pub input_bits : h.input_bits ≡ sum widths
  pub output_bits : h.output_bits ≡ sum outs
  pub wires : h.wires ≡ h.input_bits + h.gates
  pub most : h.wires ≤ (source_limits Whole).wires
  pub few : h.output_bits ≤ h.wires
