-- The bits that the seven steps of a masked AND make (docs/RULES.md, Masking a source).
use Rattle.std.specs.Prelude.{ℕ, Bool, false, cond, ◌&&◌, ◌||◌, List, [], ◌∷◌, ◌++◌, get_or}
use Rattle.netlist.specs.Eval.{differs}
use Rattle.masking.specs.Mask.{Row}
use Rattle.masking.specs.Leak.{mask_of}

-- the bit that a row makes of the bits of the places, and the bits that rows make, each of them the next place
abbrev pub row_bit : Row → List Bool → Bool
row_bit r vs = cond r.is_and (get_or vs r.first false && get_or vs r.second false)
    (differs (get_or vs r.first false) (get_or vs r.second false))

abbrev pub row_bits : List Row → List Bool → List Bool
row_bits [] vs = []
row_bits (r ∷ rs) vs = row_bit r vs ∷ row_bits rs (vs ++ (row_bit r vs ∷ []))

-- places 0 to 4: the bits s and t under codes e and f, the two masks, and the OR of m0 and m1
abbrev pub operand_bits : ℕ → ℕ → Bool → Bool → Bool → Bool → List Bool
operand_bits e f s t m0 m1 = differs s (mask_of m0 m1 e) ∷ differs t (mask_of m0 m1 f) ∷ mask_of m0 m1 e ∷ mask_of m0 m1
    f ∷ (m0 || m1) ∷ []
