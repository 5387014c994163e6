-- `certify_netlist::judge` meets its contract.
use mathlib.Core.Path.{sym}
use Rattle.questions.proofs.Asking.{asked-bits}
use Rattle.certify.proofs.Telling.{judged-passed}
use native.Mathlib.Omega.{arith}
use Rattle.certify.proofs.judge.judge.Goals as goal

pub decide-requires : goal.decide-requires
decide-requires c =
    let p = c.requires in
    let n = c.args.netlist in
    let b = asked-bits n.widths.now c.args.codes.now (sym c.in_ok-ask_codes.ensures.asked) in
    (n.wired, omega (arith, b, n.bits, n.header.inputs_are_wires), p.0, p.1, p.2, p.3)

pub returns : goal.returns
returns c = λ N H F.
    judged-passed c.args.codes.now c.args.netlist.widths.now H.widths F c.in_ok-ask_codes.ensures.asked
    (c.decide.ensures _ _ N H.gates)
