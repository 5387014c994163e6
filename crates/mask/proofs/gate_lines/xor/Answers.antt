-- `mask_gate::xor` meets its contract.
use Rattle.mask.proofs.Emits.{xor-made}
use Rattle.mask.proofs.gate_lines.xor.Goals as goal

pub returns : goal.returns
returns c =
    let a = c.args in
    xor-made a.masks.first a.start.wire a.left a.right c.change-from.ensures
    c.changed-second.ensures c.past-next.ensures
    c.xor.ensures
