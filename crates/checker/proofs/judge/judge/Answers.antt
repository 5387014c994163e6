-- `judge`: questions 10 to 12, and the verdict.
use Rattle.std.proofs.Common.{arith, sym, ap, ◌∙◌, length}
use lib.Seq.{length-take-le}
use Rattle.questions.proofs.Asking.{asked-bits}
use Rattle.checker.proofs.judge.judge.Goals as goal

pub leaks-found-requires-clause-lengths : goal.leaks-found-requires-clause-lengths
leaks-found-requires-clause-lengths c =
    let a = c.args in
    let p = c.requires in
    let same = ap length c.in_ok-admitted.ensures.given in
    let bits = asked-bits a.netlist.widths.now a.codes.now (sym c.in_ok-admitted.ensures.asked) in
    let w = length-take-le a.netlist.header.wires a.words.now p.0 in
    let b = length-take-le a.netlist.header.wires a.base.now p.1 in (
      omega (arith, same, c.if-codes-gt-MOST_BITS.false),
      omega
          (arith, same, bits, a.netlist.bits, a.netlist.header.inputs_are_wires, w),
      b ∙ sym w,
    )
