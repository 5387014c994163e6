-- `judge`: questions 21 and 14, then the distances.
use Rattle.std.proofs.Common.{arith, sym, ◌∙◌}
use lib.Seq.{length-take-le}
use Rattle.gates.specs.Gates.{gates_in}
use Rattle.cones.specs.Cone.{distances}
use Rattle.cones.proofs.Spreading.{length-distances, distances-law}
use Rattle.explain.proofs.Calls.{room-short, room-done, no-wire, some-wire}
use Rattle.cones.proofs.judge.Goals as goal

pub returns-then-wires-wire : goal.returns-then-wires-wire
returns-then-wires-wire c = λ N h.
    no-wire _ N.wires c.args.wire c.args.out.now (omega (arith, h.gates.wires, c.if-wires-wire.true))

pub returns-then-out-wires : goal.returns-then-out-wires
returns-then-out-wires c = λ N h.
    let a = c.args in
    let e = sym (length-distances N a.wire a.depth ∙ h.gates.wires) in
    some-wire N.wires a.wire (omega (arith, h.gates.wires, c.if-wires-wire.false))
    (room-short (distances N a.wire a.depth) a.out.now a.netlist.header.wires e c.if-out-wires.true)

pub returns : goal.returns
returns c = λ N h.
    let a = c.args in
    let e = sym (length-distances N a.wire a.depth ∙ h.gates.wires) in
    let o = length-take-le a.netlist.header.wires a.out.now c.if-out-wires.false in
    let told = distances-law N a.wire a.depth _ (gates_in a.netlist.gates) c.distances.new.out (h.gates.wires ∙ sym o)
    h.gates.gates c.distances.ensures in
    some-wire N.wires a.wire (omega (arith, h.gates.wires, c.if-wires-wire.false))
    (room-done (distances N a.wire a.depth) a.out.now c.distances.new.out a.netlist.header.wires e
    c.if-out-wires.false told)
