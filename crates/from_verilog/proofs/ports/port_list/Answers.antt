-- One port after another.
use Rattle.std.proofs.Common.{refl}
use Rattle.from_verilog.specs.declared.tokens.Kind.TheVariants.{Name}
use Rattle.from_verilog.proofs.KindTests.{this_number, other_number}
use Rattle.from_verilog.proofs.Seating.{seat-on, seat-bad, seat-end}
use Rattle.from_verilog.proofs.ports.port_list.Goals as goal

pub returns-in_err-ports : goal.returns-in_err-ports
returns-in_err-ports c =
    rw c.from_residual.ensures
    (seat-bad c.loop-text.invariant c.in_err-ports.ensures (this_number c.loop-text.token.kind Name
    c.loop-text-test.ensures) refl)

pub loop-text-preserved : goal.loop-text-preserved
loop-text-preserved c =
    seat-on c.loop-text.invariant c.in_ok-ports.ensures (this_number c.loop-text.token.kind Name
    c.loop-text-test.ensures) refl
    c.port.auto.states c.port.auto.wires c.next-comma.ensures c.next-token-in-loop-text.ensures

pub returns : goal.returns
returns c = seat-end c.loop-text.invariant (other_number c.loop-text.token.kind Name c.loop-text-test.ensures)
