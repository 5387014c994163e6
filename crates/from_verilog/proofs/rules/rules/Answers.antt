-- Declarations, ports, assignments.
use Rattle.std.proofs.Common.{arith, refl}
use lib.Seq.{length-take-le}
use Rattle.from_verilog.proofs.VerilogNamesCutting.{chained-cut}
use Rattle.from_verilog.proofs.ReadVerilogCutting.{declared-cut, rules-whole}
use Rattle.from_verilog.proofs.Stages.{chained-start, rules-undeclared, rules-unported, rules-unsettled, rules-settled}
use Rattle.from_verilog.proofs.rules.rules.Goals as goal

pub declarations-requires : goal.declarations-requires
declarations-requires c =
    let s = c.args in
    let p = c.requires in
    let r = p.room in (
      chained-start s.text.now s.heads.now s.words.now s.links.now _ p.cleared.0 (omega arith) p.cleared.1
          (omega (arith, r.5)),
      r.0,
      r.1,
      r.3,
      c.past-items.ensures.within,
    )

pub returns-in_err-d : goal.returns-in_err-d
returns-in_err-d c =
    rw c.from_residual.ensures (rules-undeclared c.ports_place-ports.ensures c.past-items.ensures c.in_err-d.ensures
    c.requires.room.4)

pub invariant_of-names : goal.invariant_of-names
invariant_of-names c = record { chained = rw c.declarations.auto.heads (chained-cut c.in_ok-d.ensures.names) }

pub returns-in_err-p : goal.returns-in_err-p
returns-in_err-p c =
    let D = c.in_ok-d.ensures in
    let p = c.requires.room in
    let k = c.declarations.auto in
    let e = length-take-le _ _ D.names.worded in
    rw c.from_residual-in_err-p.ensures
    (rules-unported c.ports_place-ports.ensures c.past-items.ensures (declared-cut D)
    (omega (arith, D.few, p.1, k.states)) (omega (arith, D.few, p.2))
    (rw e at c.in_err-p.ensures) refl)

pub returns-then-not-assigns_kept : goal.returns-then-not-assigns_kept
returns-then-not-assigns_kept c =
    let D = c.in_ok-d.ensures in
    let p = c.requires.room in
    let k = c.declarations.auto in
    let j = c.ports_kept.auto in
    let i = c.assigns_kept.auto in
    let e = length-take-le _ _ D.names.worded in
    rules-unsettled c.ports_place-ports.ensures c.past-items.ensures (declared-cut D)
    (omega (arith, D.few, p.1, k.states)) (omega (arith, D.few, p.2))
    (rw e at c.in_ok-p.ensures) refl (rw e at c.assigns_kept.ensures) c.requires.cleared.2
    (omega (arith, D.few, p.1, k.states, j.states, i.states)) (omega (arith, D.few, p.2, j.wires))
    c.if-not-assigns_kept.true

pub returns : goal.returns
returns c =
    let D = c.in_ok-d.ensures in
    let p = c.requires.room in
    let k = c.declarations.auto in
    let j = c.ports_kept.auto in
    let i = c.assigns_kept.auto in
    let e = length-take-le _ _ D.names.worded in
    rules-whole D.names.worded D.names.linked
    (rules-settled c.ports_place-ports.ensures c.past-items.ensures (declared-cut D)
    (omega (arith, D.few, p.1, k.states)) (omega (arith, D.few, p.2))
    (rw e at c.in_ok-p.ensures) refl (rw e at c.assigns_kept.ensures) c.requires.cleared.2
    (omega (arith, D.few, p.1, k.states, j.states, i.states)) (omega (arith, D.few, p.2, j.wires))
    c.if-not-assigns_kept.false)
