-- A file's outputs for given input bits (docs/RULES.md, AIGER).
use Rattle.std.specs.Prelude.{ℕ, ◌+◌, Bool, false, not, ◌&&◌, List, [], ◌∷◌, map, set, replicate}
use Rattle.netlist.specs.Eval.{bits_at}
use Rattle.aiger.specs.File.{Literal, constant, plain, inverse, AndLine, File}

-- the bit of a literal, from the bits of variables
abbrev pub literal_bit : (ℕ → Bool) → Literal → Bool
literal_bit u (constant b) = b
literal_bit u (plain v) = u v
literal_bit u (inverse v) = not (u v)

-- values entered in a table, each at its variable
abbrev pub enter : {A : Type 0} → List A → List ℕ → List A → List A
enter table [] xs = table
enter table (v ∷ vs) [] = table
enter table (v ∷ vs) (x ∷ xs) = enter (set table v x) vs xs

-- a table with an entry for each variable, 0 to M
abbrev pub blank : {A : Type 0} → A → File → List A
blank x F = replicate (F.most + 1) x

-- the bits of variables after AND lines, line by line
abbrev pub run_ands : List Bool → List AndLine → List Bool
run_ands v [] = v
run_ands v (a ∷ rest) = run_ands (set v a.left (literal_bit (bits_at v) a.first && literal_bit (bits_at v) a.second))
    rest

-- the bits of all variables, from the input bits in the order of the input lines
abbrev pub variable_bits : File → List Bool → List Bool
variable_bits F ins = run_ands (enter (blank false F) F.inputs ins) F.ands

unfoldable pub file_outputs : File → List Bool → List Bool
file_outputs F ins = map (literal_bit (bits_at (variable_bits F ins))) F.outputs
