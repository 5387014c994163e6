-- `judge`: questions 10, 11, 21 and 12, and both verdicts.
use mathlib.Core.Path.{◌≡◌, sym, ap, subst, ◌∙◌}
use mathlib.Core.Bool.{true}
use mathlib.Core.List.{List}
use Prim.Native.Nat.{ℕ, ◌+◌, ◌≤◌}
use lib.ListN.{length, take}
use lib.Seq.{length-take-le}
use Rattle.netlist.specs.Table.{Holds}
use Rattle.gates.specs.Gates.{tables_of}
use Rattle.questions.proofs.Asking.{asked-bits}
use Rattle.check_pairs.specs.Call.{pairs_good}
use Rattle.check_wide.proofs.Verdicts.{answered}
use native.Mathlib.Omega.{arith}
use Rattle.check_wide.proofs.judge.judge.Goals as goal

pub within-requires-clause-lengths : goal.within-requires-clause-lengths
within-requires-clause-lengths c =
    let a = c.args in
    let m = a.netlist in
    let p = c.requires in
    let same = ap length c.in_ok-admitted.ensures.given in
    let bits = asked-bits m.widths.now a.codes.now (sym c.in_ok-admitted.ensures.asked) in
    let W = m.header.wires in
    let L : (l : List ℕ) → W ≤ length l → length (take W l) ≡ W = λ l h. length-take-le W l h in
    let w = L a.words.now p.0 in
    let n = length-take-le (length a.codes.now) a.paints.now
    (omega (arith, bits, m.bits, m.header.inputs_are_wires, p.7)) in (
      n ∙ sym same,
      omega (arith, same, bits, m.bits, m.header.inputs_are_wires, w),
      L a.bases.now p.2 ∙ sym w,
      L a.base.now p.1 ∙ sym w,
      L a.set0.now p.3 ∙ sym w,
      L a.set1.now p.4 ∙ sym w,
      L a.set2.now p.5 ∙ sym w,
      L a.set3.now p.6 ∙ sym w,
    )

pub returns : goal.returns
returns c =
    let a = c.args in
    let m = a.netlist in
    let p = c.requires in
    let asked = c.in_ok-admitted.ensures.asked in
    let given = c.in_ok-admitted.ensures.given in
    let bits = asked-bits m.widths.now a.codes.now (sym asked) in
    let good : pairs_good m.header.wires a.pairs.now ≡ true = sym
    c.pairs_good.ensures ∙ c.if-not-pairs_good.false in
    let t = tables_of m.gates in
    let w = length-take-le m.header.wires a.words.now p.0 in
    let n : m.header.input_bits ≡ length a.codes.now + 2 = m.bits ∙ sym bits in
    λ N H F. answered N a.codes.now a.pairs.now m.widths.now H.widths asked H.gates.wires good
    ((rw given at c.within.ensures) m.header.output_bits N
    (subst (λ (Y : ℕ). Holds t m.gates.count Y (length a.codes.now + 2) m.header.output_bits N) (sym w)
    (subst (λ (Y : ℕ). Holds t m.gates.count m.header.wires Y m.header.output_bits N) n H.gates)) F)
