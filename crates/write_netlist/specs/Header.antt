-- The header's bytes.
use Rattle.std.specs.Prelude.{ℕ, List, [], ◌∷◌, ◌++◌, length}
use Rattle.netlist.specs.Text.{space, lf}
use Rattle.netlist.specs.Number.{decimal}
use Rattle.netlist.specs.Write.{line, decimals}
use Rattle.dialect.specs.OldWrite.{party_bits}
use Rattle.dialect.specs.declared.Dialect.{Dialect}
use Rattle.dialect.specs.declared.Dialect.TheVariants.{Fashion, Old}

-- numbers, each with a space in front
abbrev pub spaced : List ℕ → List ℕ
spaced [] = []
spaced (x ∷ xs) = space ∷ (decimal x ++ spaced xs)

-- the three lines and the blank one
abbrev pub header_text : ℕ → ℕ → List ℕ → List ℕ → List ℕ
header_text g w ins outs =
    line (decimals (g ∷ w ∷ [])) ++ (line (decimals (length ins ∷ ins))
    ++ (line (decimals (length outs ∷ outs)) ++ (lf ∷ [])))

-- the two lines of the older dialect and the blank one
abbrev pub old_header_text : ℕ → ℕ → List ℕ → List ℕ → List ℕ
old_header_text g w ins outs = line (decimals (g ∷ w ∷ [])) ++ (line (decimals (party_bits ins outs)) ++ (lf ∷ []))

abbrev pub header_text_in : Dialect → ℕ → ℕ → List ℕ → List ℕ → List ℕ
header_text_in Fashion g w ins outs = header_text g w ins outs
header_text_in Old g w ins outs = old_header_text g w ins outs
