-- `next`: a colour for an input that has none.
use mathlib.Core.Path.{refl, sym, subst}
use native.Mathlib.Omega.{arith}
use Rattle.check_wide.specs.PaintColours.{Kept}
use Rattle.check_wide.proofs.ColourGiving.{kept-one}
use Rattle.check_wide.proofs.colours.next.Goals as goal

pub returns-in-Some : goal.returns-in-Some
returns-in-Some c =
    let a = c.args in
    let l = c.in-Some.ensures c.in-Some.c refl in (
      omega (arith, l),
      subst (Kept a.paints.now) (sym c.put.ensures) (kept-one a.paints.now a.index c.in-Some.c
          (omega (arith, c.if-entry-ge4.false, c.entry.ensures 0 (λ x p. p))) l),
    )
