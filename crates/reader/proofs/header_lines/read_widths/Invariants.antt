-- The widths so far and the rest of the line.
use Prim.Native.Nat.{◌-◌}
use mathlib.Core.Path.{◌≡◌}
use lib.ListN.{length}
use Rattle.reader.proofs.WidthLines.{Widening}
use Rattle.reader.proofs.header_lines.read_widths.Given as goal

abbrev pub invariant-loop-next : goal.invariant-loop-next
invariant-loop-next l =
    (l.here.text ≡ l.fn.at.text) × Widening l.fn.at l.table l.here.at l.n l.sum
    × (length l.table ≡ length l.initial.table)

abbrev pub decreases-loop-next : goal.decreases-loop-next
decreases-loop-next l = length l.here.text.now - l.here.at
