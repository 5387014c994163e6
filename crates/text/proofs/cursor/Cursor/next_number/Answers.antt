-- A scan over spaces, and the word after them.
use mathlib.Core.Path.{refl, sym, ◌∙◌}
use borrow.Author.Rules.{rules}
use Rattle.text.proofs.Scans.{scan-start, scan-on}
use Rattle.text.proofs.DigitByDigit.{at-digit, number-other, number-missing}
use Rattle.text.proofs.Cursors.{number-found}
use Rattle.text.proofs.cursor.Cursor.next_number.Goals as goal

pub loop-i-init : goal.loop-i-init
loop-i-init c = scan-start _ _ _ c.args.self.within

pub returns-then-is_digit : goal.returns-then-is_digit
returns-then-is_digit c =
    number-found _ _ refl (at-digit _ _ _ c.loop-i.invariant (search rules)
    (sym c.is_digit.ensures ∙ c.if-is_digit.true))
    c.take_number.result c.take_number.ensures

pub returns-then-not-is_space : goal.returns-then-not-is_space
returns-then-not-is_space c =
    number-other _ _ _ c.loop-i.invariant (search rules)
    (sym c.is_space.ensures ∙ c.if-not-is_space.true) (sym c.is_digit.ensures ∙ c.if-is_digit.false)

pub loop-i-preserved : goal.loop-i-preserved
loop-i-preserved c =
    scan-on _ _ _ _ (search rules) (sym c.is_space.ensures ∙ c.if-not-is_space.false)
    c.loop-i.invariant

pub returns : goal.returns
returns c = number-missing _ _ _ c.loop-i.invariant (search rules)
