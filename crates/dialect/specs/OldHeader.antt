-- The two header lines of the older dialect: question 4 (docs/RULES.md, Older dialect).
use Rattle.std.specs.Prelude.{ℕ, cond, ◌&&◌, List, [], ◌∷◌, eqb, leb}
use Rattle.std.proofs.Math.Option.{Option, none, some}
use Rattle.netlist.specs.Header.{Header, numbers, make_header}
use Rattle.dialect.specs.declared.Parties.{Parties}

-- line two: the bits of party one, of party two and of the output; party one and the output are 1 or more
abbrev pub parties : Option (List ℕ) → Option Parties
parties none = none
parties (some []) = none
parties (some (a ∷ [])) = none
parties (some (a ∷ (b ∷ []))) = none
parties (some (a ∷ (b ∷ (o ∷ [])))) = cond (leb 1 a && leb 1 o) (some (record { one = a; two = b; output = o })) none
parties (some (a ∷ (b ∷ (o ∷ (x ∷ xs))))) = none

-- the input values: party two is left out when it is 0
abbrev pub input_values : Parties → List ℕ
input_values P = cond (eqb P.two 0) (P.one ∷ []) (P.one ∷ P.two ∷ [])

-- one output value
abbrev pub output_values : Parties → List ℕ
output_values P = P.output ∷ []

-- line one, gate count and wire count, and the parties
abbrev pub party_header : Option (List ℕ) → Option Parties → Option Header
party_header counts none = none
party_header counts (some P) = make_header counts (some (input_values P)) (some (output_values P))

-- question 4: two header lines of this form
abbrev pub old_header : List (List (List ℕ)) → Option Header
old_header [] = none
old_header (a ∷ []) = none
old_header (a ∷ (b ∷ ls)) = party_header (numbers a) (parties (numbers b))
