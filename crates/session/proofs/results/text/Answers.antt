-- `text`: the answer, and zero tables.
use mathlib.Core.Path.{ap, ◌∙◌}
use Prim.Native.Nat.{ℕ}
use lib.ListN.{replicate}
use Rattle.session.proofs.Calling.{text-shows}
use Rattle.session.proofs.results.text.Goals as goal

pub returns : goal.returns
returns c =
    let a = c.args in
    let w = c.written-answer in
    record {
      answers = w.ensures;
      shows = text-shows a.sizes a.given.widths.now a.given.outputs.now a.given.session a.given.source.now
          a.operands.now a.results.now
          w.ensures;
      operands = c.fill.ensures.after (λ y e. e) ∙ ap (λ (n : ℕ). replicate n 0) w.auto.operands;
      results = c.fill-2.ensures.after (λ y e. e) ∙ ap (λ (n : ℕ). replicate n 0) w.auto.results;
    }
