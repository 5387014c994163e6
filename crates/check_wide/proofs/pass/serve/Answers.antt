-- `serve`: colours for an item, and a mark where they are different.
use mathlib.Core.Path.{sym, subst}
use mathlib.Core.List.{List}
use Prim.Native.Nat.{ℕ}
use lib.ListN.{length}
use Rattle.check_wide.specs.Rule.{Different}
use Rattle.check_wide.specs.Items.{Serving}
use Rattle.check_wide.proofs.Servings.{serving-mark}
use Rattle.check_wide.specs.WireSets.{sets_of}
use Rattle.check_wide.proofs.pass.serve.Goals as goal

pub returns-then-fit : goal.returns-then-fit
returns-then-fit c =
    let a =
    c.args in
    let S = sets_of a.items.sets in
    let fit = c.fit in
    let D = subst (λ (is : List ℕ). Different is fit.new.paints) c.set-m.ensures
    (fit.ensures.1 c.if-fit.true) in
    subst (λ (ms : List ℕ). Serving S a.items.pairs.now (length a.items.sets.set0.now) a.start a.marks.now ms
    a.paints.now fit.new.paints)
    (sym c.put.ensures)
    (serving-mark a.marks.now a.item fit.ensures.0 D)
