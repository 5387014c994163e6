-- `judge`: questions 10 to 12, then 14, then the verdicts.
use Rattle.std.proofs.Common.{arith, sym, ap, ◌∙◌, length}
use lib.Seq.{length-take-le}
use Rattle.netlist.proofs.Answering.{answers-as}
use Rattle.causes.proofs.Judging.{room-short, room-done, holds-at}
use Rattle.causes.proofs.judge.Goals as goal

pub returns-then-out-wires : goal.returns-then-out-wires
returns-then-out-wires c = λ N h.
    let asked = c.in_ok-admitted.ensures.asked N h in
    answers-as (sym (asked _)) (room-short N c.args.codes.now c.args.out.now h.gates.wires c.if-out-wires.true)

pub verdicts-requires-clause-lengths : goal.verdicts-requires-clause-lengths
verdicts-requires-clause-lengths c =
    let few = c.in_ok-admitted.ensures.few in
    let same = ap length few.same in
    let w = length-take-le c.args.netlist.header.wires c.args.words.now c.requires.0 in
    let b = length-take-le c.args.netlist.header.wires c.args.base.now c.requires.1 in
    let o = length-take-le c.args.netlist.header.wires c.args.out.now c.if-out-wires.false in
    (omega (arith, same, few.few), omega (arith, same, few.inputs, w), b ∙ sym w, o ∙ sym w)

pub returns : goal.returns
returns c = λ N h.
    let asked = c.in_ok-admitted.ensures.asked N h in
    let w = length-take-le c.args.netlist.header.wires c.args.words.now c.requires.0 in
    let told = c.verdicts.ensures _ _ N (holds-at w h.gates) in
    answers-as (sym (asked _))
    (room-done N c.args.codes.now c.args.out.now h.gates.wires c.if-out-wires.false
    (rw c.in_ok-admitted.ensures.few.same at told))
