-- The answer, and its line.
use Rattle.std.proofs.Common.{arith}
use Rattle.cli_check.proofs.Reporting.{reported}
use Rattle.cli_check.proofs.report.Goals as goal

pub returns : goal.returns
returns c = reported c.args.netlist.now c.args.inputs.now c.answer-a.ensures c.print.ensures (omega arith)
