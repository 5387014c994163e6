-- Down the chain of the name.
use Rattle.std.proofs.Common.{length}
use Rattle.from_verilog.proofs.Chains.{Finding}
use Rattle.from_verilog.proofs.names.Names.find.Given as goal

abbrev pub invariant-loop-p : goal.invariant-loop-p
invariant-loop-p l = Finding l.self.text.now l.self.words.now l.name (length l.self.heads.now) (length l.self.words.now)
    l.p

abbrev pub decreases-loop-p : goal.decreases-loop-p
decreases-loop-p l = l.p
