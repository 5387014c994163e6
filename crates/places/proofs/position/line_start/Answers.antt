-- `line_start`: from one line that is not blank to the next.
use mathlib.Core.Path.{sym, ap, ◌∙◌}
use lib.ListN.{drop}
use Rattle.places.specs.Positions.{from_word}
use Rattle.places.proofs.Scanning.{line_on}
use Rattle.places.proofs.position.line_start.Goals as goal

pub loop-init : goal.loop-init
unfolding from_word
loop-init c =
    let s = c.skip_blanks-here.ensures in
    (ap (λ x. drop c.skip_blanks-here.result.at x.now) (sym s.same) ∙ s.rest, ap (λ x. x.now) s.same)

pub loop-preserved : goal.loop-preserved
loop-preserved c =
    let i = c.loop.invariant in
    let s = c.skip_blanks-here-in-loop.ensures in
    let n = c.next_line.ensures in
    (line_on _ _ c.loop.here i.1 i.0 _ _ n s, ap (λ x. x.now) (s.same ∙ n.same) ∙ i.1)
