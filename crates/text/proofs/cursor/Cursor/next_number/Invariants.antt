-- A scan over spaces, and the word after them.
use Rattle.netlist.specs.Text.{is_space}
use Rattle.text.proofs.Scans.{Scanning}
use Rattle.text.proofs.cursor.Cursor.next_number.Given as goal

abbrev pub invariant-loop-i : goal.invariant-loop-i
invariant-loop-i l = Scanning is_space l.text l.initial.i l.i
