-- `polynomial::judge`: questions 10 to 12, 21 and 14, then the coefficients.
use Rattle.std.proofs.Common.{arith, sym, ap, ◌∙◌, ℕ, ◌+◌, ◌^◌, length}
use lib.Seq.{length-take-le}
use Rattle.netlist.proofs.Answering.{answers-as}
use Rattle.netlist.proofs.Puts.{wired-same}
use Rattle.causes.proofs.Judging.{holds-at}
use Rattle.explain.specs.Wire.{polynomial}
use Rattle.explain.proofs.Polynomials.{length-polynomial}
use Rattle.explain.proofs.Calls.{room-short, room-done, no-wire, some-wire}
use Rattle.explain.proofs.polynomial.judge.Goals as goal

pub returns-then-wires-wire : goal.returns-then-wires-wire
returns-then-wires-wire c = λ N h.
    answers-as (sym (c.in_ok-admitted.ensures.asked N h _))
    (no-wire _ N.wires c.args.wire c.args.out.now (omega (arith, h.gates.wires, c.if-wires-wire.true)))

pub power-size-requires : goal.power-size-requires
power-size-requires c = let few = c.in_ok-admitted.ensures.few in omega (arith, few.few)

pub returns-then-out-size : goal.returns-then-out-size
returns-then-out-size c = λ N h.
    let bs = polynomial N c.args.codes.now c.args.wire in
    let e = c.power-size.ensures ∙ sym (length-polynomial N c.args.codes.now c.args.wire) in
    answers-as (sym (c.in_ok-admitted.ensures.asked N h _))
    (some-wire N.wires c.args.wire (omega (arith, h.gates.wires, c.if-wires-wire.false))
    (room-short bs c.args.out.now c.power-size.result e c.if-out-size.true))

pub of_wire-requires-clause-wired : goal.of_wire-requires-clause-wired
of_wire-requires-clause-wired c =
    let w = length-take-le c.args.netlist.header.wires c.args.words.now c.requires in
    (wired-same w c.args.netlist.wired, omega (arith, w, c.if-wires-wire.false))

pub of_wire-requires-clause-lengths : goal.of_wire-requires-clause-lengths
of_wire-requires-clause-lengths c =
    let a = c.args in
    let few = c.in_ok-admitted.ensures.few in
    let same = ap length few.same in
    let w = length-take-le a.netlist.header.wires a.words.now c.requires in
    let o = length-take-le c.power-size.result a.out.now c.if-out-size.false in (
      omega (arith, same, few.few),
      omega (arith, same, few.inputs, w),
      o ∙ c.power-size.ensures ∙ ap (λ (n : ℕ). 2 ^ (n + 2)) (sym same),
    )

pub returns : goal.returns
returns c = λ N h.
    let a = c.args in
    let bs = polynomial N a.codes.now a.wire in
    let e = c.power-size.ensures ∙ sym (length-polynomial N a.codes.now a.wire) in
    let w = length-take-le a.netlist.header.wires a.words.now c.requires in
    let told = rw c.in_ok-admitted.ensures.few.same at c.of_wire.ensures _ _ N (holds-at w h.gates) in
    answers-as (sym (c.in_ok-admitted.ensures.asked N h _))
    (some-wire N.wires a.wire (omega (arith, h.gates.wires, c.if-wires-wire.false))
    (room-done bs a.out.now c.of_wire.new.out c.power-size.result e c.if-out-size.false told))
