-- A scan over spaces.
use Rattle.from_aiger.specs.Stray.{is_plain}
use Rattle.text.proofs.Scans.{Scanning}
use Rattle.from_aiger.proofs.between.past_spaces.Given as goal

abbrev pub invariant-loop-i : goal.invariant-loop-i
invariant-loop-i l = Scanning is_plain l.text l.fn.at.at l.i
