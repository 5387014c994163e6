-- One token after another.
use Rattle.from_verilog.specs.Kind.{number_of}
use Rattle.from_verilog.proofs.Walks.{Walked, left}
use Rattle.from_verilog.proofs.form.walk.Given as goal

abbrev pub invariant-loop-token : goal.invariant-loop-token
invariant-loop-token l = Walked l.text (number_of l.token.kind) l.token.to l.s.phase l.s.depth l.deepest l.count

abbrev pub decreases-loop-token : goal.decreases-loop-token
decreases-loop-token l = left l.text (number_of l.token.kind) l.token.to
