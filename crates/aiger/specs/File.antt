-- What an AIGER file says (docs/RULES.md, AIGER: M I L O A, then inputs, outputs and AND lines).
use Rattle.std.specs.Prelude.{ℕ, ◌/◌, ◌%◌, Bool, true, false, cond, List, eqb}

-- 0 and 1 are the constants, 2v is variable v, 2v+1 its inverse
pub data Literal : Type 0 where
  constant : Bool → Literal
  plain : ℕ → Literal
  inverse : ℕ → Literal

abbrev pub literal : ℕ → Literal
literal n =
    cond (eqb n 0) (constant false)
    (cond (eqb n 1) (constant true)
    (cond (eqb (n % 2) 0) (plain (n / 2))
    (inverse (n / 2))))

-- an AND line: the variable of its left side, and its two operands
pub record AndLine : Type 0 where
  pub left : ℕ
  pub first : Literal
  pub second : Literal

-- the AND line of a variable and two numbers
abbrev pub line_of : ℕ → ℕ → ℕ → AndLine
line_of v a b = record { left = v; first = literal a; second = literal b }

-- most: M; inputs: the variable of each input line
pub record File : Type 0 where
  pub most : ℕ
  pub inputs : List ℕ
  pub outputs : List Literal
  pub ands : List AndLine
