-- `append`: i of the second's gates are put after the first's.
use Rattle.netlist.specs.Table.{tables}
use Rattle.gates.specs.Gates.{tables_of}
use Rattle.join.specs.Appended.{Appended}
use Rattle.join.proofs.appended_gates.append.Given as goal

abbrev pub invariant-loop-i : goal.invariant-loop-i
invariant-loop-i l = Appended l.seam (tables l.initial.operands l.initial.results) l.count (tables_of l.second) l.i
    (tables l.operands l.results)
