-- One assignment after another.
use Rattle.std.proofs.Common.{length}
use Rattle.from_verilog.specs.Kind.{number_of}
use Rattle.from_verilog.proofs.Joins.{left}
use Rattle.from_verilog.proofs.Assigning.{Going}
use Rattle.from_verilog.proofs.equations.equations.Given as goal

abbrev pub invariant-loop-text : goal.invariant-loop-text
invariant-loop-text l =
    Going l.names.text.now l.names.words.now l.initial.wires l.initial.operands l.initial.results
    (length l.names.words.now) l.inputs l.at l.next
    (number_of l.token.kind) l.token.to l.free l.wires l.operands l.results

abbrev pub decreases-loop-text : goal.decreases-loop-text
decreases-loop-text l = left l.names.text.now (number_of l.token.kind) l.token.to
