-- One token after another.
use Rattle.std.proofs.Common.{length}
use Rattle.from_verilog.specs.Kind.{number_of}
use Rattle.from_verilog.proofs.Joins.{left}
use Rattle.from_verilog.specs.States.{kind_number}
use Rattle.from_verilog.proofs.Declaring.{Declaring}
use Rattle.from_verilog.proofs.declarations.declarations.Given as goal

abbrev pub invariant-loop-token : goal.invariant-loop-token
invariant-loop-token l =
    Declaring l.text l.at (length l.initial.heads) (length l.initial.words) l.initial.heads l.initial.words
    l.initial.links l.initial.states l.heads l.words l.links l.states
    (number_of l.token.kind) l.token.from l.token.to l.place l.so_far.count (kind_number l.so_far.kind)

abbrev pub decreases-loop-token : goal.decreases-loop-token
decreases-loop-token l = left l.text (number_of l.token.kind) l.token.to
