-- The answer, and what it prints.
use Rattle.cli_rewrite.proofs.Reports.{reports}
use Rattle.cli_rewrite.proofs.report.Goals as goal

pub returns : goal.returns
returns c = reports c.args.netlist.now c.answer-a.ensures.outcome c.print.ensures
