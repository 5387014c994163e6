-- What a shape is of a netlist, and what is promised of a call.
use Rattle.std.specs.Prelude.{ℕ, Result, ◌≡◌, List, [], ◌∷◌, length}
use Rattle.netlist.specs.declared.Refusal.{Refusal}
use Rattle.netlist.specs.declared.Sizes.{Sizes}
use Rattle.netlist.specs.Netlist.{Netlist, input_bits, output_bits, masked_limits}
use Rattle.netlist.specs.Outcome.{Outcome, done, ask, and_then}
use Rattle.netlist.specs.Read.{read_netlist}
use Rattle.netlist.specs.Services.{tables_long, stands_for, Cleared}
use Rattle.reader.specs.declared.header.Header.{Header}
use Rattle.shape.specs.declared.numbers.Shape.{Shape}

abbrev pub shape_of : Netlist → Shape
shape_of N = record {
  input_values = length N.inputs;
  output_values = length N.outputs;
  input_bits = input_bits N;
  output_bits = output_bits N;
  wires = N.wires;
  gates = length N.gates;
}

-- the shape that a header's numbers tell
abbrev pub told : Header → Shape
told h = record {
  input_values = h.input_values;
  output_values = h.output_values;
  input_bits = h.input_bits;
  output_bits = h.output_bits;
  wires = h.wires;
  gates = h.gates;
}

-- questions 1 to 9 with tables of operands, results and given wires, and the shape of the netlist read
abbrev pub call : Sizes → List ℕ → List ℕ → List ℕ → List ℕ → Outcome Shape
call s text o r g =
    ask 1 (tables_long (masked_limits s) (length o ∷ length r ∷ length g ∷ []))
    (and_then (read_netlist (masked_limits s) text) λ N. done (shape_of N))

-- the sizes and the text, then each table before and after the call
pub record Promise (s : Sizes) (text o o' r r' g g' : List ℕ) (a : Result Shape Refusal) : Type 0 where
  pub answer : stands_for (λ x. x) a ≡ call s text o r g
  pub operands : Cleared o o'
  pub results : Cleared r r'
  pub marks : Cleared g g'
