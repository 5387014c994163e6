-- `judge`: questions 10 to 12 and 21, and both answers.
use mathlib.Core.Path.{◌≡◌, sym, ap, ◌∙◌}
use mathlib.Core.Bool.{true}
use lib.ListN.{length}
use lib.Seq.{length-take-le}
use native.Mathlib.Omega.{arith}
use Rattle.questions.proofs.Asking.{asked-bits}
use Rattle.check_pairs.specs.Call.{pairs_good}
use Rattle.check_pairs.proofs.Judging.{good-below, told, answered}
use Rattle.check_pairs.proofs.judge.judge.Goals as goal

pub search-found-requires-clause-lengths : goal.search-found-requires-clause-lengths
search-found-requires-clause-lengths c =
    let p = c.requires in
    let a = c.args in
    let m = a.netlist in
    let same = ap length c.in_ok-admitted.ensures.given in
    let bits = asked-bits m.widths.now a.codes.now (sym c.in_ok-admitted.ensures.asked) in
    let good : pairs_good m.header.wires a.pairs.now ≡ true = sym c.pairs_good.ensures ∙ c.if-not-pairs_good.false in
    let w = length-take-le m.header.wires a.words.now p.0 in
    let b = length-take-le m.header.wires a.base.now p.1 in
    let z = length-take-le m.header.wires a.bases.now p.2 in (
      omega (arith, same, c.if-codes-gt-MOST_BITS.false),
      omega (arith, same, bits, m.bits, m.header.inputs_are_wires, w),
      z ∙ sym w,
      b ∙ sym w,
      λ i l. omega (arith, good-below m.header.wires a.pairs.now good i l, w),
    )

pub returns : goal.returns
returns c N h =
    let a = c.args in
    let m = a.netlist in
    let w = length-take-le m.header.wires a.words.now c.requires.0 in
    answered N a.codes.now a.pairs.now m.widths.now h.widths c.in_ok-admitted.ensures.asked
    c.if-codes-gt-MOST_BITS.false h.gates.wires (sym c.pairs_good.ensures ∙ c.if-not-pairs_good.false)
    (rw c.in_ok-admitted.ensures.given at (told N c.in_ok-admitted.admitted.list.now a.pairs.now c.search-found.result
    (c.search-found.ensures m.header.input_bits m.header.output_bits N (rw w h.gates))))
