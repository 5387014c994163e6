-- One token after another.
use Rattle.std.proofs.Common.{length}
use Rattle.from_verilog.specs.Kind.{number_of}
use Rattle.from_verilog.proofs.Joins.{left}
use Rattle.from_verilog.specs.Parts.{readable}
use Rattle.from_verilog.proofs.Passing.{Passing}
use Rattle.from_verilog.proofs.assigns.reads.Given as goal

abbrev pub invariant-loop-names : goal.invariant-loop-names
invariant-loop-names l =
    Passing l.names.text.now (readable l.names.text.now l.names.words.now l.states (length l.names.words.now)) l.at
    (number_of l.token.kind) l.token.from l.token.to

abbrev pub decreases-loop-names : goal.decreases-loop-names
decreases-loop-names l = left l.names.text.now (number_of l.token.kind) l.token.to
