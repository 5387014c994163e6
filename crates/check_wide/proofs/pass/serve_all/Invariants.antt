-- `serve_all`: item by item.
use mathlib.Core.Path.{◌≡◌}
use Prim.Native.Nat.{◌≤◌}
use lib.ListN.{length}
use Rattle.check_wide.specs.WireSets.{sets_of}
use Rattle.check_wide.specs.Items.{Serving}
use Rattle.check_wide.proofs.pass.serve_all.Given as goal

abbrev pub invariant-loop-x : goal.invariant-loop-x
invariant-loop-x l =
    (l.x ≤ l.count) × (length l.paints ≡ length l.initial.paints) ×
    (length l.marks ≡ length l.initial.marks) × Serving (sets_of l.items.sets) l.items.pairs.now
    (length l.items.sets.set0.now) l.start l.initial.marks l.marks l.initial.paints l.paints
