-- `widths`: the first widths are written.
use Rattle.write_netlist.proofs.Headers.{Spaced}
use Rattle.write_netlist.proofs.header.widths.Given as goal

abbrev pub invariant-loop-w : goal.invariant-loop-w
invariant-loop-w l = Spaced l.initial.out l.at l.ws l.out l.next l.w-index
