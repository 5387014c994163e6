-- `asked::ask`: questions 10 and 11, then 12.
use Rattle.std.proofs.Common.{arith, sym}
use Rattle.questions.proofs.Asking.{asked-bits}
use Rattle.causes.proofs.Admitting.{asked-goes-on}
use Rattle.causes.proofs.asked.ask.Goals as goal

pub returns : goal.returns
returns c =
    let a = c.args in
    let asked = c.in_ok-admitted.ensures.asked in
    let bits = asked-bits a.netlist.widths.now a.codes.now (sym asked) in
    record {
      few = record {
        same = c.in_ok-admitted.ensures.given;
        few = c.if-codes-gt-MOST_BITS.false;
        inputs = omega (arith, bits, a.netlist.bits, a.netlist.header.inputs_are_wires);
      };
      asked = λ N h rest. asked-goes-on N a.codes.now a.netlist.widths.now h.widths asked c.if-codes-gt-MOST_BITS.false
          rest;
    }
