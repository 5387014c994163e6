-- One port after another.
use Rattle.std.proofs.Common.{length}
use Rattle.from_verilog.specs.Kind.{number_of}
use Rattle.from_verilog.proofs.Joins.{left}
use Rattle.from_verilog.proofs.Copying.{Copying}
use Rattle.from_verilog.proofs.copies.copies.Given as goal

abbrev pub invariant-loop-text : goal.invariant-loop-text
invariant-loop-text l =
    Copying l.names.text.now l.names.words.now l.states l.wires (length l.names.words.now) l.inputs l.at l.next
    l.initial.operands l.initial.results
    l.operands l.results (number_of l.token.kind) l.token.from l.token.to l.free

abbrev pub decreases-loop-text : goal.decreases-loop-text
decreases-loop-text l = left l.names.text.now (number_of l.token.kind) l.token.to
