-- The marked wires so far are in the list.
use Rattle.std.proofs.Common.{◌≡◌, ℕ, ◌<◌, true, false, get_or}
use Rattle.std.specs.List.{Contains}
use Rattle.blif.proofs.judged.listed.Given as goal

abbrev pub invariant-loop-wire : goal.invariant-loop-wire
invariant-loop-wire l = (w : ℕ) → w < l.wire → get_or l.marks w false ≡ true → Contains l.list.items w
