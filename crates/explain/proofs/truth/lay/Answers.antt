-- `truth::lay`: block by block.
use Rattle.std.proofs.Common.{arith, refl, ℕ, subst}
use Rattle.evaluate.specs.Bare.{bare}
use Rattle.gates.specs.Gates.{tables_of}
use Rattle.leak_search.specs.Block.{Evaluated}
use Rattle.explain.proofs.Laying.{laid-none, laid-more}
use Rattle.explain.proofs.truth.lay.Goals as goal

pub loop-block-init : goal.loop-block-init
loop-block-init c = laid-none _ _ _ _ _ _ _ _ refl

pub loop-block-preserved : goal.loop-block-preserved
loop-block-preserved c =
    let a = c.args in
    let at = c.loop-block in
    let ran = subst
    (λ (W : ℕ). Evaluated (bare (tables_of a.gates) a.gates.count W) a.secrets a.paints.now c.run.new.words at.block)
    at.auto.words c.run.ensures in
    laid-more at.invariant c.loop-block-test.true c.run.new.words c.store.new.table _ c.run.auto.words
    c.store.auto.table ran (omega arith) c.store.ensures

pub returns : goal.returns
returns c = λ i l k. c.loop-block.invariant.each i l (omega (arith, k, c.loop-block-test.false))
