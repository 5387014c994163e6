-- `read_gates`: the first i lines are read.
use mathlib.Core.Path.{◌≡◌}
use Rattle.netlist.specs.Table.{tables}
use Rattle.reader.proofs.Reading.{Reading}
use Rattle.reader.proofs.gate_lines.read_gates.Given as goal

abbrev pub invariant-loop-i : goal.invariant-loop-i
invariant-loop-i l = Reading l.dialect l.fn.from l.header.input_bits l.header.wires l.marks
    (tables l.operands l.results) l.i l.at.at
    × (l.at.text ≡ l.fn.from.text)
