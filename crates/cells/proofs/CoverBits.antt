-- Literals and cubes at the ends of lists.
use Rattle.std.proofs.Common.{◌≡◌, ◌<◌, Bool, true, List, [], ◌∷◌, length, refl, arith}
use Rattle.cells.specs.declared.cover.Literal.{Literal}
use Rattle.cells.specs.Covers.{literals_admit}

pub no_literals : (ls : List Literal) (bs : List Bool) → length ls < 1 → literals_admit ls bs ≡ true
no_literals [] bs few = refl
no_literals (l ∷ ls) bs few = absurd (omega arith)

pub no_bits : (ls : List Literal) (bs : List Bool) → length bs < 1 → literals_admit ls bs ≡ true
no_bits [] bs few = refl
no_bits (l ∷ ls) [] few = refl
no_bits (l ∷ ls) (b ∷ bs) few = absurd (omega arith)
