-- Tokens up to a semicolon.
use Rattle.std.specs.Prelude.{ℕ, ◌≤◌, ◌≡◌, Option, Some, None, Bool, true, false, cond, ◌&&◌, List, [], ◌∷◌, eqb, leb}
use Rattle.std.specs.Prelude.{length, drop}
use Rattle.std.proofs.Math.Option.{some}
use Rattle.verilog.specs.Tokens.{Token, name, mark, tokens}
use Rattle.from_verilog.specs.Next.{code_of}
use Rattle.from_verilog.specs.Wires.{wire_of}

-- a name may be read: its state is 5 or more
unfoldable pub readable : List ℕ → List ℕ → List ℕ → ℕ → List ℕ → Bool
readable t words states n w = leb 5 (wire_of t words states n w)

-- a token is not the end of the text, and a name passes a test
abbrev pub token_passes : (List ℕ → Bool) → ℕ → List ℕ → Bool
token_passes p c w = cond (eqb c 0) false (cond (eqb c 15) (p w) true)

-- there is a semicolon, and the names before it pass a test
unfoldable pub names_pass : (List ℕ → Bool) → List Token → Bool
names_pass p [] = false
names_pass p (name w ∷ ts) = p w && names_pass p ts
names_pass p (mark k ∷ ts) = cond (eqb (code_of (mark k)) 9) true (names_pass p ts)

-- the tokens after the next semicolon
unfoldable pub after_end : List Token → List Token
after_end [] = []
after_end (x ∷ ts) = cond (eqb (code_of x) 9) ts (after_end ts)

-- what an answer says of the tokens from a place on
pub record PartSays (t : List ℕ) (p : List ℕ → Bool) (ts : List Token) (good : Bool) (following : ℕ) : Type 0 where
  pub said : good ≡ names_pass p ts
  pub left : good ≡ true → tokens (drop following t) ≡ some (after_end ts)

pub record PartGives (t : List ℕ) (p : List ℕ → Bool) (at : ℕ) (good : Bool) (following : ℕ) : Type 0 where
  pub on : at ≤ following
  pub within : following ≤ length t
  pub gives : (ts : List Token) → tokens (drop at t) ≡ some ts → PartSays t p ts good following

abbrev pub PartIs : List ℕ → (List ℕ → Bool) → ℕ → Option ℕ → Type 0
PartIs t p at None = (place : ℕ) × PartGives t p at false place
PartIs t p at (Some r) = PartGives t p at true r

abbrev pub any : List ℕ → Bool
any w = true

-- the place after the next semicolon, where there is one
pub record PastIs (t : List ℕ) (at r : ℕ) : Type 0 where
  pub within : r ≤ length t
  pub gives : (ts : List Token) → tokens (drop at t) ≡ some ts → names_pass any ts ≡ true → tokens (drop r t)
      ≡ some (after_end ts)
