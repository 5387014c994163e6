-- `each`: the entries before this one are told.
use Rattle.std.specs.Prelude.{ℕ, ◌<◌, get_or}
use Rattle.evaluate.proofs.lay.each.Given as goal

abbrev pub invariant-loop-i : goal.invariant-loop-i
invariant-loop-i g l = (x : g.row.A.Denot) (y : g.row.B.Denot) (k : ℕ) → k < l.i → goal.F-post g l.f (get_or l.src k x)
    (get_or l.dst k y)
