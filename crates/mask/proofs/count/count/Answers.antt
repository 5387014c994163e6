-- `count`: the wires after the source gates, and one for each output bit.
use mathlib.Core.Path.{◌∙◌}
use lib.ListN.{length}
use Rattle.mask.proofs.Passes.{pass-count}
use Rattle.gates.specs.Gates.{tables_of}
use Rattle.mask.proofs.count.count.Goals as goal

pub returns : goal.returns
returns c =
    let a = c.args in
    let s = a.source in
    let p = c.requires in
    let t = c.place_twins-next in
    λ N h. pass-count (tables_of s.gates) s.gates.count (length a.twin_wires.now) s.codes.now s.wanted.now
    t.new.twin_wires t.new.twin_codes N h
    p.outs t.auto.twin_wires (t.auto.twin_codes ∙ p.codes) (t.ensures.state N h)
