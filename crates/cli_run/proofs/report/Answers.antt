-- The answer, and its line.
use Rattle.cli_run.proofs.Reports.{reports}
use Rattle.cli_run.proofs.report.Goals as goal

pub returns : goal.returns
returns c = reports c.args.netlist.now c.args.inputs.now c.answer-a.ensures.outcome c.print.ensures
