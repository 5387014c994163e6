-- Every byte before this one is white.
use Rattle.std.proofs.Common.{ℕ, ◌≡◌, ◌≤◌, ◌<◌, ◌+◌, true, drop, get_or}
use Rattle.verilog.specs.Tokens.{is_white}
use Rattle.from_verilog.proofs.tokens.skip_white.Given as goal

abbrev pub invariant-loop-i : goal.invariant-loop-i
invariant-loop-i l = (k : ℕ) → l.initial.at ≤ k → k < l.i → is_white (get_or l.text k 0) (drop (k + 1) l.text) ≡ true
