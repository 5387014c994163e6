-- `word_start`: from one word to the next.
use mathlib.Core.Path.{ap, ◌∙◌}
use Rattle.places.proofs.Scanning.{word_on}
use Rattle.places.proofs.position.word_start.Goals as goal

pub loop-preserved : goal.loop-preserved
loop-preserved c =
    let i = c.loop.invariant in
    let s = c.skip_spaces-here.ensures in
    let n = c.next_word.ensures in
    (word_on _ _ _ c.loop.here i.1 i.0 _ _ _ n s, ap (λ x. x.now) (s.same ∙ n.same) ∙ i.1)
