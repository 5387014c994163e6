-- The service's answer to a file that is short enough, and to its list.
use Rattle.std.proofs.Common.{arith}
use Rattle.cli_run.proofs.Reports.{answer-short}
use Rattle.cli_run.proofs.answer.Goals as goal

pub returns : goal.returns
returns c =
    answer-short c.args.netlist.now c.args.inputs.now _
    (record {
      bits = omega arith;
      operands = omega arith;
      results = omega arith;
      marks = omega arith;
      words
          = omega arith;
    }) (omega arith)
    c.list.ensures c.run.ensures.answers
