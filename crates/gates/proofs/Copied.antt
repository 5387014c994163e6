-- A list whose entries are another's, place by place, is that list.
use Prim.Native.Nat.{ℕ, ◌<◌}
use mathlib.Core.Path.{◌≡◌}
use mathlib.Core.List.{List, [], ◌∷◌}
use Rattle.std.specs.Prelude.{length, get_or}
use Rattle.std.proofs.lemmas.List.{ext_get_or, nil_from_length}

pub copied : {X : Type 0} (xs ys : List X) → length ys ≡ length xs
    → ((d : X) (i : ℕ) → i < length ys → get_or ys i d ≡ get_or xs i d) → ys ≡ xs
copied [] ys l same = nil_from_length ys l
copied (x ∷ xs) ys l same = ext_get_or x ys (x ∷ xs) l (same x)
