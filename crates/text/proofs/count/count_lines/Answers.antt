-- The lines counted and those that are left.
use mathlib.Core.Path.{refl, ap, ◌∙◌, subst}
use native.Mathlib.Omega.{arith}
use lib.ListN.{length}
use borrow.Author.Rules.{rules}
use Rattle.text.specs.Line.{is_blank, Scanned, LineTaken}
use Rattle.text.proofs.Lines.{counting-start, counting-on, counting-end, line_on, at-word}
use Rattle.text.proofs.Cursors.{places, line-places, lines-following-blanks}
use Rattle.text.proofs.count.count_lines.Goals as goal

pub loop-here-init : goal.loop-here-init
loop-here-init c =
    let s = c.skip_blanks-here.ensures in
    (refl, counting-start _ _ (rw s.same (at-word _ _ _ (places _ _ _ s))))

pub loop-here-smaller : goal.loop-here-smaller
loop-here-smaller c =
    let l = c.next_line.ensures in
    let s = c.skip_blanks-here-in-loop-here.ensures in
    let o = line_on _ _ _ (search rules) (line-places _ _ l) in
    rw (s.same ∙ l.same) (omega (arith, o, s.on))

pub loop-here-preserved : goal.loop-here-preserved
loop-here-preserved c =
    let l = c.next_line.ensures in
    let s = c.skip_blanks-here-in-loop-here.ensures in
    let i = c.loop-here.invariant in
    let e = ap (λ x. x.now) i.0 in
    let f = ap (λ x. x.now) (l.same ∙ i.0) in
    let h = c.loop-here-test.true in (
      s.same ∙ l.same ∙ i.0,
      counting-on _ _ c.loop-here.here.at _ c.next_line.result.at c.skip_blanks-here-in-loop-here.result.at
          (omega (arith, h, ap length e)) i.1 (subst (λ t. LineTaken t c.loop-here.here.at c.next_line.result.at) e
          (line-places _ _ l))
          (subst (λ t. Scanned is_blank t c.next_line.result.at c.skip_blanks-here-in-loop-here.result.at) f
          (places _ _ _ s)),
    )

pub returns : goal.returns
returns c =
    let i = c.loop-here.invariant in
    let h = c.loop-here-test.false in
    counting-end _ _ c.loop-here.here.at _ (omega (arith, h, ap (λ x. length x.now) i.0)) i.1
    ∙ ap length (lines-following-blanks _ _ c.skip_blanks-here.ensures)
