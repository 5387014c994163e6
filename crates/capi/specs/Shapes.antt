-- A shape as C reads it.
use Rattle.std.specs.Prelude.{ℕ, ◌≡◌, List}
use Rattle.netlist.specs.declared.Sizes.{Sizes}
use Rattle.netlist.specs.Outcome.{Outcome, refused, done}
use Rattle.netlist.specs.Services.{Cleared}
use Rattle.shape.specs.declared.numbers.Shape.{Shape}
use Rattle.shape.specs.Promise.{call}
use Rattle.capi.specs.declared.shapes.ShapeAnswer.{ShapeAnswer}

-- the shape and 0, or the question alone
abbrev pub shape_answer : Outcome Shape → ShapeAnswer
shape_answer (done s) = record {
  input_values = s.input_values;
  output_values = s.output_values;
  input_bits = s.input_bits;
  output_bits = s.output_bits;
  wires = s.wires;
  gates = s.gates;
  refused = 0;
}
shape_answer (refused q) = record {
  input_values = 0;
  output_values = 0;
  input_bits = 0;
  output_bits = 0;
  wires = 0;
  gates = 0;
  refused = q;
}

-- the answer is that of questions 1 to 9 and of the netlist read, and the tables are cleared
pub record ShapeTold (s : Sizes) (text o o' r r' g g' : List ℕ) (a : ShapeAnswer) : Type 0 where
  pub answer : a ≡ shape_answer (call s text o r g)
  pub operands : Cleared o o'
  pub results : Cleared r r'
  pub marks : Cleared g g'
