-- `paint::each`: the paints are laid one by one.
use Prim.Native.Nat.{◌≤◌}
use lib.ListN.{length}
use Rattle.netlist.proofs.Laid.{Laid}
use Rattle.leak_search.specs.Paint.{paint_each}
use Rattle.leak_search.proofs.paint.each.Given as goal

abbrev pub invariant-loop-i : goal.invariant-loop-i
invariant-loop-i l = Laid 0 (paint_each 0 l.codes.list.now) l.initial.paints l.paints l.i
    × (l.i ≤ length l.codes.list.now)
