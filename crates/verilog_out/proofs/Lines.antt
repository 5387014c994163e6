-- The lines so far and one more.
use Rattle.std.proofs.Common.{◌≡◌, ℕ, ◌+◌, ◌<◌, List, [], ◌∷◌, ◌++◌, length, take, get_or, ap, sym, ◌∙◌, append_assoc}
use Rattle.std.specs.List.{flat_map}
use Rattle.std.proofs.lemmas.Grind.{flat_map-append}
use Rattle.std.proofs.lemmas.List.{append-nil, take_more}

-- what was written, then a line more, is what is written with one more
pub one_more : {X : Type 0} (f : X → List ℕ) (xs : List X) (i : ℕ) (d : X) (start mid end : List ℕ) → i < length xs
    → mid ≡ start ++ flat_map f (take i xs) → end ≡ mid ++ f (get_or xs i d) → end ≡ start ++ flat_map f (take (i + 1) xs)
one_more f xs i d start mid end l e g =
    let x = get_or xs i d in
    let before = flat_map f (take i xs) in
    let step : flat_map f (take (i + 1) xs) ≡ before ++ f x =
    ap (flat_map f) (take_more xs i d l) ∙ flat_map-append f (take i xs) (x ∷ [])
    ∙ ap (λ (t : List ℕ). before ++ t) (append-nil (f x)) in
    g ∙ ap (λ (t : List ℕ). t ++ f x) e ∙ append_assoc start before (f x) ∙ ap (λ (t : List ℕ). start ++ t) (sym step)
