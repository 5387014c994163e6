-- Equations one after another, with the wires of names in a table.
use Rattle.std.specs.Prelude.{ℕ, ◌≤◌, ◌≡◌, List, [], ◌∷◌, ◌++◌, drop}
use Rattle.std.proofs.Math.Option.{some}
use Rattle.netlist.specs.declared.Gate.{Gate}
use Rattle.netlist.specs.Table.{Tables}
use Rattle.verilog.specs.Tokens.{Token, tokens}
use Rattle.verilog.specs.Syntax.{Assign, assign_tokens, each_tokens}
use Rattle.verilog.specs.Made.{expr_made}
use Rattle.verilog.specs.Walk.{flat, on_assign}
use Rattle.verilog.specs.Reading.{Accepts}
use Rattle.from_verilog.specs.Next.{TokenAt}
use Rattle.from_verilog.specs.Puts.{put_gates}
use Rattle.from_verilog.specs.Wires.{wire_of, given}

-- the gates of assignments, the table of wires after them, and the next wire
pub record Laid : Type 0 where
  pub gates : List Gate
  pub wires : List ℕ
  pub next : ℕ

abbrev pub lay : List ℕ → List ℕ → ℕ → Laid → Assign → Laid
lay t words n B a =
    let M = expr_made a.value (wire_of t words B.wires n) B.next in
    record { gates = B.gates ++ M.gates; wires = given t words B.wires n a.target M.wire; next = M.next }

abbrev pub lay_all : List ℕ → List ℕ → ℕ → Laid → List Assign → Laid
lay_all t words n B [] = B
lay_all t words n B (a ∷ rest) = lay_all t words n (lay t words n B a) rest

abbrev pub unlaid : List ℕ → ℕ → Laid
unlaid wires c = record { gates = []; wires = wires; next = c }

-- of the tokens ts those of assignments have been read, up to a place; their gates were put into the tables
pub record Laying (t words : List ℕ) (n count : ℕ) (wires₀ : List ℕ) (c place : ℕ) (ts : List Token)
    (before after : Tables) (wires : List ℕ)
    (free : ℕ) : Type 0 where
  pub assigns : List Assign
  pub rest : List Token
  pub split : ts ≡ each_tokens assign_tokens assigns ++ rest
  pub left : tokens (drop place t) ≡ some rest
  pub onward : Accepts rest (flat on_assign)
  pub next : free ≡ (lay_all t words count (unlaid wires₀ c) assigns).next
  pub wired : wires ≡ (lay_all t words count (unlaid wires₀ c) assigns).wires
  pub stored : after ≡ put_gates n before (lay_all t words count (unlaid wires₀ c) assigns).gates

-- the assignments from a place on were read, and no assignment follows
pub record EquationsIs (t words : List ℕ) (n count at : ℕ) (wires₀ : List ℕ) (c : ℕ) (before after : Tables)
    (wires : List ℕ) (free : ℕ) : Type 0 where
  pub place : ℕ
  pub start : ℕ
  pub following : ℕ
  pub code : ℕ
  pub token : TokenAt t place code start following
  pub other : code ≡ 5 → ⊥
  pub more : c ≤ free
  pub gives : (ts : List Token) → tokens (drop at t) ≡ some ts → Accepts ts (flat on_assign)
      → Laying t words n count wires₀ c place ts before after wires free
