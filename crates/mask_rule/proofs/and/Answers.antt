-- `and`: the seven steps follow the mask change.
use Rattle.mask_rule.proofs.Gates.{and_at}
use native.Mathlib.Omega.{arith}
use Rattle.mask_rule.proofs.and.Goals as goal

pub returns : goal.returns
returns c =
    let a = c.args in
    and_at _ _ a.left a.right _ c.extra-from.ensures c.changed-second.ensures
    c.past-next.ensures
    c.wire-p.ensures c.wire-q.ensures (omega (arith, c.if-index-from.false)) (λ l. c.step.ensures)
