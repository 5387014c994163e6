-- The measure of `write_outputs`: the outputs left.
use Rattle.std.proofs.Common.{length}
use Rattle.verilog_out.proofs.write.+write_outputs.Given as goal

abbrev pub decreases-write_outputs : goal.decreases-write_outputs
decreases-write_outputs l = length l.targets.now
