-- What a reader of expressions, terms or factors has read.
use Rattle.std.specs.Prelude.{ℕ, ◌≡◌, List, ◌++◌, T}
use Rattle.verilog.specs.Tokens.{Token}
use Rattle.verilog.specs.Made.{Made}
use Rattle.verilog.specs.Walk.{Shape, at, walk, well_ended, after_operand}

-- the recogniser comes to a good end over the tokens from a shape
abbrev pub Accepts : List Token → Shape → Type 0
Accepts ts s = T (well_ended (walk ts s))

-- of the tokens ts those of a tree have been read, k parentheses being open: rest is left, and M is what was made of
-- the tree from the wires of names and the next wire c
pub record Read {A : Type 0} (tokens_of : A → List Token) (made_of : A → (List ℕ → ℕ) → ℕ → Made) (wire : List ℕ → ℕ)
    (k c : ℕ)
    (ts rest : List Token) (M : Made)
    : Type 0 where
  pub tree : A
  pub text : ts ≡ tokens_of tree ++ rest
  pub made : M ≡ made_of tree wire c
  pub onward : Accepts rest (at after_operand k)
