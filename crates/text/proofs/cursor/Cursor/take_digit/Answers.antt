-- A digit, and a space.
use Prim.Native.Nat.{◌+◌, ◌-◌}
use mathlib.Core.Path.{refl, sym, ap, ◌∙◌}
use native.Mathlib.Omega.{arith}
use borrow.Author.Rules.{rules}
use Rattle.netlist.specs.Number.{is_digit}
use Rattle.text.proofs.Scans.{byte_of_rest}
use Rattle.text.proofs.DigitByDigit as R
use Rattle.text.proofs.cursor.Cursor.take_digit.Goals as goal

pub returns-in-32 : goal.returns-in-32
returns-in-32 c =
    let t = c.args.self.text.now in
    let at = c.args.self.at in
    let b = byte_of_rest t at 0 at (omega arith) in
    let d = R.digit-number t at _ (search rules) (ap is_digit (sym b) ∙ sym c.is_digit.ensures ∙ c.if-is_digit.true)
    (sym (byte_of_rest t at 1 (at + 1) (omega arith)) ∙ search rules) (c.digit_value.ensures.0 ∙ ap (λ x. x - 48) b) in
    (d.0, record { value = d.1.value; rest = d.1.left; on = d.1.on; same = refl })
