-- `counts::judge`: questions 10 to 12 and 21, then the numbers.
use Rattle.std.proofs.Common.{arith, sym, ap, ◌∙◌, ◌≡◌, ◌≤◌, ◌^◌, ◌+◌, ℕ, length}
use lib.Pow.{pow_mono}
use lib.Seq.{length-take-le}
use Rattle.netlist.proofs.Answering.{answers-as}
use Rattle.netlist.proofs.Puts.{wired-same}
use Rattle.causes.proofs.Judging.{holds-at}
use Rattle.explain.proofs.Calls.{no-wire, some-wire}
use Rattle.explain.proofs.counts.judge.Goals as goal

pub returns-then-wires-wire : goal.returns-then-wires-wire
returns-then-wires-wire c = λ N h.
    answers-as (sym (c.in_ok-admitted.ensures.asked N h _))
    (no-wire _ N.wires c.args.wire c.args.out.now (omega (arith, h.gates.wires, c.if-wires-wire.true)))

pub power-size-requires : goal.power-size-requires
power-size-requires c = let few = c.in_ok-admitted.ensures.few in omega (arith, few.few)

-- the size is at most 2^14
small : (n k : ℕ) → n ≡ 2 ^ (k + 2) → k ≤ 12 → n ≤ 16384
small n k e l = let p = pow_mono {i = k + 2} {j = 14} (omega arith) in omega arith

pub slice_bounds-of_wire-end : goal.slice_bounds-of_wire-end
slice_bounds-of_wire-end c =
    let few = c.in_ok-admitted.ensures.few in
    omega (arith, small c.power-size.result (length c.args.codes.now) c.power-size.ensures few.few, c.requires.1)

pub slice_bounds-of_wire-end-2 : goal.slice_bounds-of_wire-end-2
slice_bounds-of_wire-end-2 c =
    let few = c.in_ok-admitted.ensures.few in
    let size = small c.power-size.result (length c.args.codes.now) c.power-size.ensures few.few in
    sym (length-take-le c.power-size.result c.args.bits.now (omega (arith, size, c.requires.1)))

pub slice_bounds-of_wire-end-5 : goal.slice_bounds-of_wire-end-5
slice_bounds-of_wire-end-5 c =
    let few = c.in_ok-admitted.ensures.few in
    omega (arith, small c.power-size.result (length c.args.codes.now) c.power-size.ensures few.few, c.requires.2)

pub slice_bounds-of_wire-end-6 : goal.slice_bounds-of_wire-end-6
slice_bounds-of_wire-end-6 c =
    let few = c.in_ok-admitted.ensures.few in
    let size = small c.power-size.result (length c.args.codes.now) c.power-size.ensures few.few in
    sym (length-take-le c.power-size.result c.args.bases.now (omega (arith, size, c.requires.2)))

pub of_wire-requires-clause-wired : goal.of_wire-requires-clause-wired
of_wire-requires-clause-wired c =
    let w = length-take-le c.args.netlist.header.wires c.args.words.now c.requires.0 in
    (wired-same w c.args.netlist.wired, omega (arith, w, c.if-wires-wire.false))

pub of_wire-requires-clause-lengths : goal.of_wire-requires-clause-lengths
of_wire-requires-clause-lengths c =
    let a = c.args in
    let few = c.in_ok-admitted.ensures.few in
    let same = ap length few.same in
    let size = small c.power-size.result (length a.codes.now) c.power-size.ensures few.few in
    let w = length-take-le a.netlist.header.wires a.words.now c.requires.0 in
    let bits = length-take-le c.power-size.result a.bits.now (omega (arith, size, c.requires.1)) in
    let bases = length-take-le c.power-size.result a.bases.now (omega (arith, size, c.requires.2)) in
    let e = c.power-size.ensures ∙ ap (λ (n : ℕ). 2 ^ (n + 2)) (sym same) in
    (omega (arith, same, few.few), omega (arith, same, few.inputs, w), bits ∙ e, bases ∙ e)

pub returns : goal.returns
returns c = λ N h.
    let a = c.args in
    let w = length-take-le a.netlist.header.wires a.words.now c.requires.0 in
    answers-as (sym (c.in_ok-admitted.ensures.asked N h _))
    (some-wire N.wires a.wire (omega (arith, h.gates.wires, c.if-wires-wire.false))
    (rw c.in_ok-admitted.ensures.few.same at c.of_wire.ensures _ _ N (holds-at w h.gates)))
