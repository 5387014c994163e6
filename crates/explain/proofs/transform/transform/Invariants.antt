-- `transform::transform`: variable by variable.
use Rattle.std.proofs.Common.{ℕ, Bool, length, ◌≡◌}
use Rattle.explain.specs.Polynomial.{coefficients}
use Rattle.explain.specs.Table.{Bits}
use Rattle.explain.proofs.transform.transform.Given as goal

abbrev pub invariant-loop-index : goal.invariant-loop-index
invariant-loop-index l = (length l.table ≡ length l.initial.table)
    × ((f : ℕ → Bool) → Bits f l.initial.table → Bits (coefficients l.index f) l.table)
