-- One assignment after another.
use Rattle.std.proofs.Common.{length}
use Rattle.from_verilog.specs.Kind.{number_of}
use Rattle.from_verilog.proofs.Joins.{left}
use Rattle.from_verilog.proofs.Settling.{Settling}
use Rattle.from_verilog.proofs.assigns.assigns.Given as goal

abbrev pub invariant-loop-text : goal.invariant-loop-text
invariant-loop-text l = Settling l.names.text.now l.names.words.now (length l.names.words.now) l.at l.initial.states
    l.states (number_of l.token.kind) l.token.to

abbrev pub decreases-loop-text : goal.decreases-loop-text
decreases-loop-text l = left l.names.text.now (number_of l.token.kind) l.token.to
