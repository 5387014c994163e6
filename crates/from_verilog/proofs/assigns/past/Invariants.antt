-- One token after another.
use Rattle.from_verilog.specs.Kind.{number_of}
use Rattle.from_verilog.proofs.Joins.{left}
use Rattle.from_verilog.specs.Parts.{any}
use Rattle.from_verilog.proofs.Passing.{Passing}
use Rattle.from_verilog.proofs.assigns.past.Given as goal

abbrev pub invariant-loop-token : goal.invariant-loop-token
invariant-loop-token l = Passing l.text any l.at (number_of l.token.kind) l.token.from l.token.to

abbrev pub decreases-loop-token : goal.decreases-loop-token
decreases-loop-token l = left l.text (number_of l.token.kind) l.token.to
