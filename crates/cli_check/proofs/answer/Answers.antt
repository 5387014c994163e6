-- The answer to a netlist file that is too long, and the service's to one that is not, and to its list.
use Rattle.std.proofs.Common.{arith}
use Rattle.cli_check.proofs.Reporting.{asked-short}
use Rattle.cli_check.proofs.answer.Goals as goal

pub returns : goal.returns
returns c =
    asked-short c.args.netlist.now c.args.inputs.now _
    (record {
      operands = omega arith;
      results = omega arith;
      marks = omega arith;
      words = omega arith;
      base
          = omega arith;
    }) (omega arith)
    c.list.ensures c.check.ensures.outcome
