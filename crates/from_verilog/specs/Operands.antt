-- What the readers of expressions, terms and factors promise.
use Rattle.std.specs.Prelude.{ℕ, ◌+◌, ◌-◌, ◌≤◌, ◌<◌, ◌≡◌, Bool, true, false, cond, List, eqb, length, drop}
use Rattle.std.proofs.Math.Option.{some}
use Rattle.netlist.specs.declared.Gate.TheVariants.{Inv}
use Rattle.netlist.specs.Table.{half, Tables}
use Rattle.verilog.specs.Tokens.{Token, tokens}
use Rattle.verilog.specs.Syntax.{expr_tokens, term_tokens, factor_tokens}
use Rattle.verilog.specs.Made.{Made, expr_made, term_made, factor_made}
use Rattle.verilog.specs.Walk.{at, on_operand}
use Rattle.verilog.specs.Reading.{Accepts, Read}
use Rattle.from_verilog.specs.declared.tokens.Token.{Token as Lexed}
use Rattle.from_verilog.specs.Kind.{number_of}
use Rattle.from_verilog.specs.Next.{TokenAt}
use Rattle.from_verilog.specs.Puts.{put_gate, put_gates}
use Rattle.from_verilog.specs.declared.expression.Value.{Value}

-- the names have entries with wires, and there are as many free wires as bytes are left
pub record Ready (t wires : List ℕ) (count n from next : ℕ) : Type 0 where
  pub wired : count ≤ length wires
  pub within : from ≤ length t
  pub first : n ≤ next
  pub room : next + (length t - from) + 1 < half

-- the tokens ts from a place on begin with those of a tree; the gates made of it were put into the tables
pub record Gives {A : Type 0} (tokens_of : A → List Token) (made_of : A → (List ℕ → ℕ) → ℕ → Made) (wire : List ℕ → ℕ)
    (t : List ℕ) (n k c to : ℕ)
    (ts : List Token) (before after : Tables) (v : Value) : Type 0 where
  pub rest : List Token
  pub left : tokens (drop to t) ≡ some rest
  pub M : Made
  pub read : Read tokens_of made_of wire k c ts rest M
  pub value : v.wire ≡ M.wire
  pub free : v.next ≡ M.next
  pub stored : after ≡ put_gates n before M.gates

-- an operand from a place on, and the token after it, which passes a test. Where the recogniser comes to a good end
-- from here on, with k parentheses open, a tree was read
pub record OperandIs {A : Type 0} (tokens_of : A → List Token) (made_of : A → (List ℕ → ℕ) → ℕ → Made)
    (stops : ℕ → Bool) (wire : List ℕ → ℕ) (t : List ℕ)
    (n from c : ℕ) (before after : Tables) (v : Value) : Type 0 where
  pub to : ℕ
  pub start : ℕ
  pub token : TokenAt t to (number_of v.token.kind) start v.token.to
  pub stop : stops (number_of v.token.kind) ≡ true
  pub on : from ≤ to
  pub more : c ≤ v.next
  pub few : v.next + from ≤ c + to
  pub gives : (k : ℕ) (ts : List Token) → tokens (drop from t) ≡ some ts → Accepts ts (at on_operand k)
      → Gives tokens_of made_of wire t n k c to ts before after v

abbrev pub any : ℕ → Bool
any c = true

abbrev pub no_and : ℕ → Bool
no_and c = cond (eqb c 13) false true

abbrev pub no_operator : ℕ → Bool
no_operator c = cond (eqb c 14) false (no_and c)

abbrev pub FactorIs : (List ℕ → ℕ) → List ℕ → ℕ → ℕ → ℕ → Tables → Tables → Value → Type 0
FactorIs = OperandIs factor_tokens factor_made any

abbrev pub TermIs : (List ℕ → ℕ) → List ℕ → ℕ → ℕ → ℕ → Tables → Tables → Value → Type 0
TermIs = OperandIs term_tokens term_made no_and

abbrev pub ExprIs : (List ℕ → ℕ) → List ℕ → ℕ → ℕ → ℕ → Tables → Tables → Value → Type 0
ExprIs = OperandIs expr_tokens expr_made no_operator

-- the token after a ~, or the token itself
pub record PastIs (t : List ℕ) (x y : Lexed) : Type 0 where
  pub negated : eqb (number_of x.kind) 12 ≡ true → TokenAt t x.to (number_of y.kind) y.from y.to
  pub plain : eqb (number_of x.kind) 12 ≡ false → y ≡ x

-- an operand that ends at a place is inverted or not, with its gate, and the token after it
pub record Finished (t : List ℕ) (n : ℕ) (negated : Bool) (wire next to : ℕ) (before after : Tables) (v : Value) : Type
    0 where
  pub start : ℕ
  pub token : TokenAt t to (number_of v.token.kind) start v.token.to
  pub value : v.wire ≡ cond negated next wire
  pub free : v.next ≡ cond negated (next + 1) next
  pub stored : after ≡ cond negated (put_gate n before (Inv wire next)) before
