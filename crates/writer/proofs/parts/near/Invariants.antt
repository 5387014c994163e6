-- `near`: the head and the first operands are written.
use mathlib.Core.List.{◌++◌}
use lib.ListN.{take}
use Rattle.writer.specs.Wrote.{Wrote}
use Rattle.writer.specs.Parts.{head_of, spaced}
use Rattle.writer.proofs.parts.near.Given as goal

abbrev pub invariant-loop-a : goal.invariant-loop-a
invariant-loop-a g l = Wrote l.fn.out l.at (head_of g.row.N ++ spaced (take l.a-index l.fn.operands)) l.out l.next
