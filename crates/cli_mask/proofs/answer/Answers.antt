-- The service's answer to a netlist file that is short enough.
use Rattle.std.proofs.Common.{arith}
use Rattle.cli_mask.proofs.Reports.{answer-short}
use Rattle.cli_mask.proofs.answer.Goals as goal

pub returns : goal.returns
returns c =
    answer-short c.args.netlist.now c.args.codes.now c.args.wanted.now
    (record {
      text = omega arith;
      out_codes = omega arith;
      operands = omega arith;
      results = omega arith;
      wires
          = omega arith;
      marks = omega arith;
    }) (omega arith)
    c.mask.ensures.answers
