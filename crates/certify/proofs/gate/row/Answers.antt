-- `certify_pass::gate::row` meets its contract.
use mathlib.Core.Path.{sym, ap, ◌∙◌}
use Prim.Native.Nat.{◌+◌, ◌-◌}
use native.Mathlib.Omega.{arith}
use Rattle.certify.specs.Step.{state, row_more}
use Rattle.certify.proofs.Turns.{row-next, row-end}
use Rattle.certify.proofs.gate.row.Goals as goal

pub loop-j-preserved : goal.loop-j-preserved
loop-j-preserved c =
    let l = c.loop-j in
    let a = c.args in (
      record { holds = λ N codes M X H. c.pair.ensures.says.holds N codes M X (l.invariant.0.holds N codes M X H) },
      λ h. ap (row_more (5 - (l.j + 1)) (l.j + 1) a.gate a.first) (c.pair.ensures.is h)
          ∙ sym (row-next l.j a.gate a.first (state l.records l.marks h) (omega arith)) ∙ l.invariant.1 h,
    )

pub returns-clause-says : goal.returns-clause-says
returns-clause-says c = c.loop-j.invariant.0

pub returns-clause-is : goal.returns-clause-is
returns-clause-is c = λ h.
    let l = c.loop-j in
    let a = c.args in
    sym (row-end l.j a.gate a.first (state l.records l.marks h) (omega arith)) ∙ l.invariant.1 h
