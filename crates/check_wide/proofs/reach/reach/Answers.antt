-- `reach::reach`: line by line.
use mathlib.Core.Path.{refl, sym, ap, subst, ◌∙◌}
use Prim.Native.Nat.{ℕ, ◌+◌}
use Rattle.netlist.specs.Table.{Holds}
use Rattle.netlist.proofs.Tests.{clash}
use Rattle.check_wide.specs.Packed.{sets, start_set, Sized}
use Rattle.check_wide.proofs.Reaching.{reaching-none, reaching-all, line-more, line-full}
use Rattle.gates.specs.Gates.{tables_of}
use Rattle.check_wide.proofs.reach.reach.Goals as goal

pub loop-i-init : goal.loop-i-init
loop-i-init c =
    let p = c.requires.lengths in
    let b = c.start in
    reaching-none
    (record {
      long0 = b.auto.set0 ∙ sym p.1;
      long1 = refl;
      long2 = p.2 ∙ sym p.1;
      long3 = p.3 ∙ sym p.1;
      few
          = b.ensures.1;
    })
    (λ w. b.ensures.0 c.args.set1.now c.args.set2.now c.args.set3.now w ∙ ap (λ (W : ℕ). start_set c.args.inputs W w)
    (sym p.1))

pub returns-then-not-line : goal.returns-then-not-line
returns-then-not-line c =
    let line = c.line in
    let a = c.args in (
      λ e. clash (cc),
      λ o N H F. line-full c.loop-i.invariant
          c.loop-i-test.true c.at-gate.ensures
          line.ensures (c.if-not-line.true) o N
          (subst (λ (W : ℕ). Holds (tables_of a.gates) a.gates.count W (a.inputs + 2) o N) (sym c.requires.lengths.1) H)
          F,
    )

pub loop-i-preserved : goal.loop-i-preserved
loop-i-preserved c =
    let line = c.line in
    line-more c.loop-i.invariant c.loop-i-test.true c.at-gate.ensures
    line.ensures (c.if-not-line.false)

pub returns : goal.returns
returns c =
    let h = c.loop-i.invariant in
    let a = c.args in
    let S = sets c.loop-i.set0 c.loop-i.set1 c.loop-i.set2 c.loop-i.set3 in (
      λ _. subst (Sized S) c.requires.lengths.1 h.sized,
      λ o N H F. reaching-all h c.loop-i-test.false o N
          (subst (λ (W : ℕ). Holds (tables_of a.gates) a.gates.count W (a.inputs + 2) o N) (sym c.requires.lengths.1) H)
          F,
    )
