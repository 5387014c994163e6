-- Which wires are judged.
use Rattle.std.specs.Prelude.{ℕ, ◌<◌, ◌≡◌, Bool, true, false, List, length, get_or, All, Contains}

-- a wire has a mark, where there is one for it
abbrev pub IsMarked : List Bool → ℕ → Type 0
IsMarked marks w = w < length marks → get_or marks w false ≡ true

-- the wires of nets that are below the number of wires are in the list
abbrev pub AreJudged : List ℕ → ℕ → List ℕ → Type 0
AreJudged list wires nets = All (λ w. w < wires → Contains list w) nets
