-- `mask_gate::and` meets its contract.
use Rattle.mask.proofs.Emits.{and-made}
use Rattle.mask.proofs.gate_lines.and.Goals as goal

pub returns : goal.returns
returns c =
    let a = c.args in
    and-made a.masks.first a.start.wire a.left a.right c.change-from.ensures
    c.changed-second.ensures
    c.past-next.ensures c.wire-p.ensures
    c.wire-q.ensures
    c.steps.ensures
