-- The lines counted and those that are left.
use Prim.Native.Nat.{◌-◌}
use mathlib.Core.Path.{◌≡◌}
use lib.ListN.{length}
use Rattle.text.proofs.Lines.{Counting}
use Rattle.text.proofs.count.count_lines.Given as goal

abbrev pub invariant-loop-here : goal.invariant-loop-here
invariant-loop-here l = (l.here.text ≡ l.initial.here.text) × Counting l.initial.here.text.now l.initial.here.at
    l.here.at l.n

abbrev pub decreases-loop-here : goal.decreases-loop-here
decreases-loop-here l = length l.here.text.now - l.here.at
