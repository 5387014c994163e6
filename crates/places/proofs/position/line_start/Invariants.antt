-- `line_start`: so many lines are passed.
use Rattle.std.proofs.Common.{◌≡◌}
use lib.ListN.{drop}
use Rattle.places.specs.Positions.{from_word}
use Rattle.places.proofs.position.line_start.Given as goal

abbrev pub invariant-loop : goal.invariant-loop
invariant-loop l = (drop l.here.at l.fn.text ≡ from_word l.counter 0 l.fn.text) × (l.here.text.now ≡ l.fn.text)
