-- The service's answer to a file that is short enough.
use Rattle.std.proofs.Common.{arith}
use Rattle.cli_rewrite.proofs.Reports.{answer-short}
use Rattle.cli_rewrite.proofs.answer.Goals as goal

pub returns : goal.returns
returns c =
    answer-short c.args.netlist.now (record {
      text = omega arith;
      operands = omega arith;
      results = omega arith;
      marks
          = omega arith;
    }) (omega arith)
    c.rewrite.ensures.answers
