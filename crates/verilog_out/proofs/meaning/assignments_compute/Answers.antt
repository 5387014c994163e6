-- `assignments_compute`: bits that the assignments allow are those that the netlist computes.
use Rattle.verilog_out.proofs.Agreeing.{computes}
use Rattle.verilog_out.proofs.meaning.assignments_compute.Goals as goal

pub returns : goal.returns
returns c N spell bit ins F has all = computes N spell bit ins F has all
