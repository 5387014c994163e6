-- `copy`: the entries before this one are copied.
use Rattle.std.specs.Prelude.{ℕ, ◌<◌, ◌≡◌, get_or, length}
use Rattle.gates.proofs.entries.copy.Given as goal

abbrev pub invariant-loop-i : goal.invariant-loop-i
invariant-loop-i g l = (d : g.row.T.Denot) (k : ℕ) → k < l.i → get_or l.to k d ≡ get_or l.from k d
