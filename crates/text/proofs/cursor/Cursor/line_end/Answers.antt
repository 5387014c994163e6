-- The line's end at once, or after the spaces.
use mathlib.Core.Path.{refl, sym, ap, ◌∙◌}
use lib.ListN.{drop}
use Rattle.text.proofs.Lines.{end-here, end-text, end_line, end-not}
use Rattle.text.proofs.Cursors.{places}
use borrow.Author.Rules.{rules}
use Rattle.text.proofs.cursor.Cursor.line_end.Goals as goal

pub returns-then-is_line_end : goal.returns-then-is_line_end
returns-then-is_line_end c =
    let e = end-here _ _ (search rules) (sym c.is_line_end.ensures ∙ c.if-is_line_end.true) in
    record { none = e.none; rest = e.left; on = e.on; same = refl }

pub returns-then-text-at : goal.returns-then-text-at
returns-then-text-at c =
    let s = c.skip_spaces-end.ensures in
    let e = end-text _ _ _ (places _ _ _ s) c.if-text-at.true in
    record {
      none = e.none;
      rest = ap (λ x. drop c.skip_spaces-end.result.at x.now) s.same ∙ e.left;
      on = e.on;
      same
          = s.same;
    }

pub returns-then-is_line_end-2 : goal.returns-then-is_line_end-2
returns-then-is_line_end-2 c =
    let e = end_line _ _ _ (places _ _ _ c.skip_spaces-end.ensures) (search rules)
    (sym c.is_line_end-2.ensures ∙ c.if-is_line_end-2.true) in
    record { none = e.none; rest = e.left; on = e.on; same = refl }

pub returns : goal.returns
returns c = end-not _ _ _ (places _ _ _ c.skip_spaces-end.ensures) (search rules)
    (sym c.is_line_end-2.ensures ∙ c.if-is_line_end-2.false)
