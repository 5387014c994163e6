-- `gate_lines`: the lines of the first gates are written, and the entries of the others are left.
use Rattle.std.proofs.Common.{length}
use Rattle.gates.specs.Gates.{tables_of}
use Rattle.write_netlist.proofs.Forms.{Zipped}
use Rattle.write_netlist.proofs.gate_lines.Given as goal

abbrev pub invariant-loop-o : goal.invariant-loop-o
invariant-loop-o l = Zipped l.initial.out l.at (tables_of l.gates) l.gates.count l.out l.next (length l.yielded)
    l.o-iterator.a.rest.now l.o-iterator.b.rest.now
