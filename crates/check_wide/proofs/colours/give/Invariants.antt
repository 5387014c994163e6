-- `give`: member by member.
use mathlib.Core.Path.{◌≡◌}
use Prim.Native.Nat.{◌≤◌}
use lib.ListN.{length}
use Rattle.check_wide.specs.PaintColours.{Kept}
use Rattle.check_wide.proofs.colours.give.Given as goal

abbrev pub invariant-loop-item : goal.invariant-loop-item
invariant-loop-item l = (l.c ≤ 13) × (length l.paints ≡ length l.initial.paints) × Kept l.initial.paints l.paints
