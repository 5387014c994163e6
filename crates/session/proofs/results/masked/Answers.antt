-- `masked`: the answer, and zero tables.
use mathlib.Core.Path.{ap, ◌∙◌}
use Prim.Native.Nat.{ℕ}
use lib.ListN.{replicate}
use Rattle.session.proofs.Calling.{masked-masks}
use Rattle.session.proofs.results.masked.Goals as goal

pub returns : goal.returns
returns c =
    let a = c.args in
    let m = c.masked_in-answer in
    record {
      answers = m.ensures;
      masks = masked-masks a.sizes a.given.widths.now a.given.outputs.now a.given.session a.given.source.now a.codes.now
          a.wanted.now
          a.operands.now a.results.now a.wires.now
          a.marks.now m.ensures;
      operands = c.fill.ensures.after (λ y e. e) ∙ ap (λ (n : ℕ). replicate n 0) m.auto.operands;
      results = c.fill-2.ensures.after (λ y e. e) ∙ ap (λ (n : ℕ). replicate n 0) m.auto.results;
      wires = c.fill-3.ensures.after (λ y e. e) ∙ ap (λ (n : ℕ). replicate n 0) m.auto.wires;
      marks = c.fill-4.ensures.after (λ y e. e) ∙ ap (λ (n : ℕ). replicate n 0) m.auto.marks;
    }
