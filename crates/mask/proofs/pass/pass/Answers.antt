-- `mask_pass::pass` meets its contract.
use mathlib.Core.Path.{◌∙◌}
use lib.ListN.{length}
use Rattle.mask_rule.proofs.Starts.{started-most}
use Rattle.mask.proofs.Passes.{pass-made}
use native.Mathlib.Omega.{arith}
use Rattle.gates.specs.Gates.{tables_of}
use Rattle.mask.proofs.pass.pass.Goals as goal

pub write_all-place-requires-clause-c_bound : goal.write_all-place-requires-clause-c_bound
write_all-place-requires-clause-c_bound c =
    let p = c.requires.ready in
    omega (arith, p.small, p.ins, started-most c.start-first.ensures)

pub outs-end-requires-clause-c_bound : goal.outs-end-requires-clause-c_bound
outs-end-requires-clause-c_bound c =
    let p = c.requires.ready in
    omega (arith, p.small, p.ins, p.outs, started-most c.start-first.ensures, c.write_all-place.ensures.grown)

pub overflow_add-result : goal.overflow_add-result
overflow_add-result c =
    let p = c.requires.ready in
    omega (arith, p.small, p.ins, p.outs, started-most c.start-first.ensures, c.write_all-place.ensures.grown)

pub returns : goal.returns
returns c =
    let a = c.args in
    let j = a.source in
    let p = c.requires.ready in
    let s = c.start-first in
    let g = c.write_all-place in
    let wires = g.auto.twin_wires ∙ s.auto.twin_wires in
    let codes = g.auto.twin_codes ∙ s.auto.twin_codes ∙ p.codes in
    λ N h. pass-made (tables_of j.gates) j.gates.count (length a.twin_wires.now) s.result j.codes.now j.wanted.now
    s.new.twin_wires s.new.twin_codes g.new.twin_wires g.new.twin_codes N h g.result
    p.outs wires codes s.ensures
    c.mask_gates-second.ensures
    c.publics-third.ensures g.ensures c.outs-end.ensures
