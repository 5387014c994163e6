-- How many settings have each count, as one value.
use Rattle.std.specs.Prelude.{ℕ, List, ◌∷◌}
use Rattle.explain.specs.declared.tally.Totals.{Totals}
use Rattle.explain.specs.Counts.{settings_with}

abbrev pub totals_of : (ℕ → ℕ) → ℕ → Totals
totals_of g S = record {
  zero = settings_with g 0 S;
  one = settings_with g 1 S;
  two = settings_with g 2 S;
  three = settings_with g 3 S;
  four = settings_with g 4 S;
}

-- as a list, before others
abbrev pub listed : Totals → List ℕ → List ℕ
listed t rest = t.zero ∷ t.one ∷ t.two ∷ t.three ∷ t.four ∷ rest
