-- Every byte before this one is part of no word.
use Rattle.std.proofs.Common.{ℕ, ◌≡◌, ◌≤◌, ◌<◌, true, drop}
use Rattle.from_aiger.specs.Stray.{is_between}
use Rattle.from_aiger.proofs.lines.Lines.to_word.Given as goal

abbrev pub invariant-loop-i : goal.invariant-loop-i
invariant-loop-i l = (k : ℕ) → l.self.at ≤ k → k < l.i → is_between (drop k l.self.text.now) ≡ true
