-- The wires so far are marked.
use Rattle.std.proofs.Common.{◌≡◌, length, take}
use Rattle.std.specs.List.{All}
use Rattle.blif.specs.Judged.{IsMarked}
use Rattle.blif.proofs.judged.marks_of.Given as goal

abbrev pub invariant-loop-wire : goal.invariant-loop-wire
invariant-loop-wire l = (length l.marks.items ≡ l.wires) × All (IsMarked l.marks.items) (take l.wire-index l.nets)
