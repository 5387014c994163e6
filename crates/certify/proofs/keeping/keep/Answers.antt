-- `certify_wires::keep::keep` meets its contract.
use mathlib.Core.Path.{sym, ◌∙◌}
use Rattle.std.specs.Prelude.{None, Some}
use Rattle.certify.proofs.Stores.{keeping-more, keeping-stop, left-next, left-none, kept-no, kept-yes}
use native.Mathlib.Omega.{arith}
use Rattle.certify.proofs.keeping.keep.Goals as goal

pub returns-in_default-clause-says : goal.returns-in_default-clause-says
returns-in_default-clause-says c = keeping-stop c.loop-k.invariant.0 (omega arith) c.step.result c.step.ensures.says

pub loop-k-preserved : goal.loop-k-preserved
loop-k-preserved c =
    let l = c.loop-k in (
      keeping-more l.invariant.0 (omega arith) c.step.result c.step.ensures.says _ c.in-Some.is c.step.auto.records,
      sym (left-next c.args.wire l.k l.records c.step.new.records l.carried (Some c.in-Some.s) (omega arith)
          c.in-Some.ensures.is) ∙ l.invariant.1,
    )

pub returns-then-is_like_first-clause-is : goal.returns-then-is_like_first-clause-is
returns-then-is_like_first-clause-is c = kept-yes _ _ _ (sym c.is_like_first.ensures ∙ c.if-is_like_first.true)

pub returns-in_default-clause-is : goal.returns-in_default-clause-is
returns-in_default-clause-is c =
    let l = c.loop-k in
    let a = c.args in
    sym (left-next a.wire l.k l.records c.step.new.records l.carried None (omega arith) c.in_default.ensures.is)
    ∙ l.invariant.1
    ∙ kept-no a.wire a.records.now a.known (sym c.is_like_first.ensures ∙ c.if-is_like_first.false)

pub returns-clause-is : goal.returns-clause-is
returns-clause-is c =
    let l = c.loop-k in
    let a = c.args in
    left-none a.wire l.k l.records l.carried (omega arith) ∙ l.invariant.1 ∙ kept-no a.wire a.records.now a.known
    (sym c.is_like_first.ensures ∙ c.if-is_like_first.false)
