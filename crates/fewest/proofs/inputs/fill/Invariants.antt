-- `inputs::fill`: the first i inputs are filled.
use Rattle.std.specs.Prelude.{ℕ, ◌≡◌}
use Rattle.fewest.specs.Ends.{FilledBy}
use Rattle.fewest.proofs.inputs.fill.Given as goal

abbrev pub invariant-loop-i : goal.invariant-loop-i
invariant-loop-i g l = (f : ℕ → ℕ → ℕ) → ((e d r : ℕ) → goal.F-post g l.code e d r → r ≡ f e d)
    → FilledBy f l.codes l.way l.i l.initial.out l.out
