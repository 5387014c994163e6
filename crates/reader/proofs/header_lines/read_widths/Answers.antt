-- The widths so far and the rest of the line.
use mathlib.Core.Path.{refl, ap, ◌∙◌}
use native.Mathlib.Omega.{arith}
use lib.ListN.{length, length-set}
use Rattle.reader.proofs.WidthLines.{widen-start, widen-on, widen-end, widen-not, widen-zero}
use Rattle.reader.proofs.header_lines.read_widths.Goals as goal

pub loop-next-init : goal.loop-next-init
loop-next-init c = (refl, widen-start _ _, refl)

pub returns-in-Some : goal.returns-in-Some
returns-in-Some c = let i = c.loop-next.invariant in widen-end _ _ _ i.0 _ _ i.1 _ c.in-Some.ensures

pub returns-in_default-next_number : goal.returns-in_default-next_number
returns-in_default-next_number c =
    let i = c.loop-next.invariant in
    widen-not _ _ c.loop-next.here i.0 _ _ i.1 c.in_default-next_number.ensures c.in_default.ensures

pub returns-then-width-eq0 : goal.returns-then-width-eq0
returns-then-width-eq0 c =
    let i = c.loop-next.invariant in widen-zero _ _ _ i.0 _ _ i.1 _ _ c.if-width-eq0.true c.in-Some-next_number.ensures

pub loop-next-smaller : goal.loop-next-smaller
loop-next-smaller c =
    let a = c.in-Some-next_number.ensures in
    omega (arith, a.on, ap (λ t. length t.now) a.same, (let b = c.in-Some-next_number.on.within in b))

pub loop-next-preserved : goal.loop-next-preserved
loop-next-preserved c =
    let i = c.loop-next.invariant in
    let a = c.in-Some-next_number.ensures in (
      a.same ∙ i.0,
      rw c.put.ensures (widen-on _ _ _ i.0 _ _ i.1 _ _ c.if-width-eq0.false a),
      ap length c.put.ensures
          ∙ simp length-set i.2,
    )
