-- `front`: the head and the first operands are stored.
use Prim.Native.Nat.{◌+◌, ◌*◌}
use mathlib.Core.List.{◌++◌}
use lib.ListN.{take}
use Rattle.writer.specs.Spilt.{Spilt}
use Rattle.writer.specs.Parts.{head_of, spaced}
use Rattle.writer.proofs.parts.front.Given as goal

abbrev pub invariant-loop-a : goal.invariant-loop-a
invariant-loop-a g l = Spilt (4 + 7 * l.a-index) 6 l.fn.out l.at
    (head_of g.row.N ++ spaced (take l.a-index l.fn.operands)) l.out l.next
