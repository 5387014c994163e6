-- `certify_pass::gate::leaves` meets its contract.
use mathlib.Core.Path.{sym, ◌∙◌}
use mathlib.Core.Bool.{true, false}
use native.Mathlib.Omega.{arith}
use Rattle.certify.specs.Step.{state}
use Rattle.certify.proofs.Turns.{leaves-next, leaves-end, leaves-none}
use Rattle.certify.proofs.gate.leaves.Goals as goal

pub loop-k-preserved : goal.loop-k-preserved
loop-k-preserved c =
    let l = c.loop-k in
    let u = c.settle.new in (
      λ N codes H. c.settle.ensures.says N codes (l.invariant.0 N codes H),
      sym (leaves-next l.k c.args.wire (state l.records l.marks l.hints) (state u.records u.marks u.hints) false
          (omega arith) c.if-settle.ensures.is)
          ∙ l.invariant.1,
    )

pub returns-then-settle : goal.returns-then-settle
returns-then-settle c =
    let a = c.args in
    let l = c.loop-k in
    let u = c.settle.new in
    let s = state a.records.now a.marks.now a.hints.now in
    record {
      says = λ N codes H. c.settle.ensures.says N codes (l.invariant.0 N codes H);
      is = sym (leaves-next l.k a.wire (state l.records l.marks l.hints) (state u.records u.marks u.hints) true
          (omega arith) c.if-settle.ensures.is)
          ∙ l.invariant.1 ∙ leaves-none a.wire s (sym c.has_leaf.ensures ∙ c.if-has_leaf.false);
    }

pub returns : goal.returns
returns c =
    let a = c.args in
    let l = c.loop-k in
    let s = state a.records.now a.marks.now a.hints.now in
    record {
      says = l.invariant.0;
      is = sym (leaves-end l.k a.wire (state l.records l.marks l.hints) (omega arith)) ∙ l.invariant.1
          ∙ leaves-none a.wire s (sym c.has_leaf.ensures ∙ c.if-has_leaf.false);
    }
