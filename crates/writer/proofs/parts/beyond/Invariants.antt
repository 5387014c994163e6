-- `beyond`: the result's digits and those of the first operands are counted.
use Prim.Native.Nat.{◌+◌, ◌*◌, ◌≤◌}
use mathlib.Core.Path.{◌≡◌}
use lib.ListN.{length, take}
use Rattle.netlist.specs.Number.{decimal}
use Rattle.writer.specs.Parts.{spaced}
use Rattle.writer.proofs.parts.beyond.Given as goal

abbrev pub invariant-loop-a : goal.invariant-loop-a
invariant-loop-a g l = (l.length ≡ 9 + length (decimal l.wire) + length (spaced (take l.a-index l.fn.operands)))
    × (l.length ≤ 19 + 11 * l.a-index)
