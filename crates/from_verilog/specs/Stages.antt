-- The names that stand in the parts of a module, token by token.
use Rattle.std.specs.Prelude.{ℕ, ◌-◌, ◌≤◌, ◌≡◌, Option, Some, None, Bool, true, false, cond, not, ◌&&◌, ◌||◌, List, []}
use Rattle.std.specs.Prelude.{◌∷◌, ◌++◌, map, eqb, leb, length, take, drop}
use Rattle.std.proofs.Math.Option.{some}
use Rattle.verilog.specs.Tokens.{Token, name, mark, elem, tokens}
use Rattle.verilog.specs.Equations.{Entry, entry}
use Rattle.from_verilog.specs.Next.{code_of}
use Rattle.from_verilog.specs.Names.{names_of, Chained}
use Rattle.from_verilog.specs.declared.declarations.Declared.{Declared}

-- ---- declarations

-- what stands among declarations: names, the words of their kinds, commas and semicolons
abbrev pub declares : ℕ → Bool
declares c = eqb c 15 || eqb c 9 || eqb c 10 || (leb 2 c && leb c 4)

-- the kind after a mark: 1 for inputs, 2 for outputs, 3 for wires
abbrev pub kind_after : ℕ → ℕ → ℕ
kind_after κ c = cond (leb 5 c) κ (c - 1)

-- the declared names in text order, each with its kind
unfoldable pub declared_from : ℕ → List Token → List (Entry ℕ)
declared_from κ [] = []
declared_from κ (name w ∷ ts) = entry w κ ∷ declared_from κ ts
declared_from κ (mark k ∷ ts) = cond (declares (code_of (mark k))) (declared_from (kind_after κ (code_of (mark k))) ts)
    []

-- the tokens after declarations
unfoldable pub after_declared : List Token → List Token
after_declared [] = []
after_declared (x ∷ ts) = cond (declares (code_of x)) (after_declared ts) (x ∷ ts)

abbrev pub keys : List (Entry ℕ) → List (List ℕ)
keys es = map (λ e. e.key) es

abbrev pub kinds : List (Entry ℕ) → List ℕ
kinds es = map (λ e. e.value) es

-- names of which none stands twice, nor among those before them
unfoldable pub fresh : List (List ℕ) → List (List ℕ) → Bool
fresh ps [] = true
fresh ps (w ∷ ws) = not (elem w ps) && fresh (ps ++ w ∷ []) ws

-- the tables hold the declared names of the tokens ts
pub record Loaded (t words st : List ℕ) (count place : ℕ) (ts : List Token) : Type 0 where
  pub names : names_of t words count ≡ keys (declared_from 0 ts)
  pub states : take count st ≡ kinds (declared_from 0 ts)
  pub once : fresh [] (keys (declared_from 0 ts)) ≡ true
  pub left : tokens (drop place t) ≡ some (after_declared ts)

pub record AllDeclared (t : List ℕ) (at size most : ℕ) (heads words links st : List ℕ) (count place : ℕ) : Type 0 where
  pub names : Chained t heads words links size count
  pub few : count ≤ most
  pub within : place ≤ length t
  pub gives : (ts : List Token) → tokens (drop at t) ≡ some ts → Loaded t words st count place ts

pub record NotDeclared (t : List ℕ) (at most : ℕ) : Type 0 where
  pub gives : (ts : List Token) → tokens (drop at t) ≡ some ts
      → (fresh [] (keys (declared_from 0 ts)) && leb (length (declared_from 0 ts)) most) ≡ false

-- every name was declared once; or one was declared twice, or there are more than `most`
abbrev pub DeclaredIs : List ℕ → ℕ → ℕ → ℕ → List ℕ → List ℕ → List ℕ → List ℕ → Option Declared → Type 0
DeclaredIs t at size most heads words links st None = NotDeclared t at most
DeclaredIs t at size most heads words links st (Some r) = AllDeclared t at size most heads words links st r.count r.at
