-- `rest_of_line`: the numbers so far and the rest of the line.
use Rattle.std.proofs.Common.{◌≡◌, ◌-◌}
use lib.ListN.{length}
use Rattle.places.proofs.HeaderForms.{Numbering}
use Rattle.places.proofs.header_lines.rest_of_line.Given as goal

abbrev pub invariant-loop-here : goal.invariant-loop-here
invariant-loop-here l = (l.here.text ≡ l.fn.at.text) × Numbering l.fn.at l.here.at l.count l.positive

abbrev pub decreases-loop-here : goal.decreases-loop-here
decreases-loop-here l = length l.here.text.now - l.here.at
