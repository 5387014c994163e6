-- `certify_pass::gate::pairs` meets its contract.
use mathlib.Core.Path.{sym, ap, ◌∙◌}
use Prim.Native.Nat.{◌+◌, ◌-◌}
use native.Mathlib.Omega.{arith}
use Rattle.certify.specs.Step.{state, pairs_more}
use Rattle.certify.proofs.Turns.{pairs-next, pairs-end}
use Rattle.certify.proofs.gate.pairs.Goals as goal

pub loop-i-preserved : goal.loop-i-preserved
loop-i-preserved c =
    let l = c.loop-i in
    let g = c.args.gate in (
      record {
        holds = λ N codes M H. c.pairs_of-in-loop-i.ensures.says.holds N codes M
            (l.invariant.0.holds N codes M H);
      },
      λ h. ap (pairs_more (5 - (l.i + 1)) (l.i + 1) g) (c.pairs_of-in-loop-i.ensures.is h)
          ∙ sym (pairs-next l.i g (state l.records l.marks h) (omega arith)) ∙ l.invariant.1 h,
    )

pub returns-clause-says : goal.returns-clause-says
returns-clause-says c = record {
  holds = λ N codes M H. c.loop-i.invariant.0.holds N codes M
      (c.pairs_of.ensures.says.holds N codes M H);
}

pub returns-clause-is : goal.returns-clause-is
returns-clause-is c = λ h.
    let l = c.loop-i in
    let g = c.args.gate in
    sym (pairs-end l.i g (state l.records l.marks h) (omega arith)) ∙ l.invariant.1 h
    ∙ ap (pairs_more 4 1 g) (c.pairs_of.ensures.is h)
