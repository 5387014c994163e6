-- The two lists, the answer, and what it prints.
use Rattle.cli_mask.proofs.Reports.{reports}
use Rattle.cli_mask.proofs.report.Goals as goal

pub returns : goal.returns
returns c =
    reports c.args.netlist.now c.args.inputs.now c.args.outputs.now c.list-codes.ensures c.list-wanted.ensures
    c.answer-a.ensures.outcome c.print.ensures
