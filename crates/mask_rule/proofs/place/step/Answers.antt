-- `step`: the result's twin is stored.
use Rattle.mask_rule.proofs.Advances.{advanced-made}
use Rattle.mask_rule.proofs.place.step.Goals as goal

pub returns : goal.returns
returns c =
    let a = c.args in
    rw (c.put.ensures.0, c.put.ensures.1) (advanced-made a.twin_wires.now a.twin_codes.now a.gate _ c.of.ensures
    c.twin-a.ensures c.twin-b.ensures c.twin-t.ensures)
