-- `tally::weight`: bit by bit.
use Rattle.std.proofs.Common.{◌≡◌, ◌+◌, ◌-◌}
use Rattle.explain.specs.Counts.{weight}
use Rattle.explain.proofs.tally.weight.Given as goal

abbrev pub invariant-loop : goal.invariant-loop
invariant-loop l = l.total + weight (l.bits - l.counter) l.rest ≡ weight l.bits l.number
