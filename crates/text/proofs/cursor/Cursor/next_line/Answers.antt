-- A scan for the end of the line, and past it.
use Prim.Native.Nat.{◌+◌}
use mathlib.Core.Path.{ap, ◌∙◌}
use lib.ListN.{drop}
use borrow.Author.Rules.{rules}
use Rattle.text.specs.Line.{in_line}
use Rattle.text.proofs.Lines.{line-found, line-last}
use Rattle.text.proofs.Cursors.{places}
use Rattle.text.proofs.cursor.Cursor.next_line.Goals as goal

pub returns-then-end : goal.returns-then-end
returns-then-end c =
    let s = c.pass-end.ensures in_line (λ b r e. search rules) in
    let l = line-found _ _ _ (search rules) (places _ _ _ s) in
    record { rest = ap (λ x. drop (c.pass-end.result.at + 1) x.now) s.same ∙ l.left; on = l.on; same = s.same }

pub returns : goal.returns
returns c =
    let s = c.pass-end.ensures in_line (λ b r e. search rules) in
    let l = line-last _ _ _ (search rules) (places _ _ _ s) in
    record { rest = ap (λ x. drop c.pass-end.result.at x.now) s.same ∙ l.left; on = l.on; same = s.same }
