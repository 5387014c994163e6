-- `step`: the gate's masked gates are written, and its result's twin is stored.
use Rattle.mask.proofs.States.{step-made}
use Rattle.mask.proofs.source_gates.step.Goals as goal

pub returns : goal.returns
returns c =
    let a = c.args in
    rw (c.put.ensures.0, c.put.ensures.1) (step-made a.twin_wires.now a.twin_codes.now a.gate _ c.of.ensures
    c.twin-a.ensures c.twin-b.ensures c.emit-end.ensures)
