-- `seed`: member by member.
use mathlib.Core.Path.{refl, sym, subst}
use mathlib.Core.List.{List}
use Prim.Native.Nat.{ℕ, ◌+◌}
use lib.ListN.{get_or, take}
use lib.Seq.{length-take-le}
use native.Mathlib.Omega.{arith}
use Rattle.check_wide.proofs.ColourGiving.{Seeding, seeding-more}
use Rattle.check_wide.proofs.colours.seed.Goals as goal

pub loop-a-preserved : goal.loop-a-preserved
loop-a-preserved c =
    let m = c.args.members in
    let at = c.loop-a in
    let is = take m.count m.items in
    let n = length-take-le m.count m.items (omega (arith, m.few, m.long)) in
    subst (λ (ps : List ℕ). Seeding is c.args.paints.now ps (at.a + 1)) (sym c.put.ensures)
    (seeding-more (get_or is at.a 0) (at.a + 1) at.invariant c.loop-a-test.true refl refl (omega (arith, m.few)))
