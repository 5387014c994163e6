-- Assignments one after another, with the states of names in a table.
use Rattle.std.specs.Prelude.{ℕ, ◌≡◌, Bool, true, cond, ◌&&◌, ◌||◌, List, [], ◌∷◌, ◌++◌, eqb, drop}
use Rattle.std.proofs.Math.Option.{some}
use Rattle.netlist.specs.Lists.{every, ascii}
use Rattle.verilog.specs.Tokens.{Token, mark, tokens}
use Rattle.verilog.specs.Syntax.{Assign, assign_tokens, each_tokens}
use Rattle.verilog.specs.Rules.{expr_reads}
use Rattle.from_verilog.specs.Wires.{wire_of}
use Rattle.from_verilog.specs.States.{becomes}
use Rattle.from_verilog.specs.Parts.{readable}

-- a wire or an output that is not yet assigned
abbrev pub is_open : ℕ → Bool
is_open s = eqb s 3 || eqb s 4

-- the states after an assignment to a name: 3 becomes 5, and 4 becomes 6
abbrev pub settled : List ℕ → List ℕ → List ℕ → ℕ → List ℕ → List ℕ
settled t words states n w = cond (eqb (wire_of t words states n w) 3) (becomes t words states n w 3 5)
    (becomes t words states n w 4 6)

pub record TargetIs (t words : List ℕ) (n : ℕ) (w : List ℕ) (st st' : List ℕ) (r : Bool) : Type 0 where
  pub said : r ≡ is_open (wire_of t words st n w)
  pub states : st' ≡ settled t words st n w

-- whether every assignment so far is good, and the states of names
pub record Settled : Type 0 where
  pub good : Bool
  pub states : List ℕ

abbrev pub settle : List ℕ → List ℕ → ℕ → Settled → Assign → Settled
settle t words n S a = record {
  good = S.good && every (readable t words S.states n) (expr_reads a.value) && is_open
      (wire_of t words S.states n a.target);
  states = settled t words S.states n a.target;
}

abbrev pub settle_all : List ℕ → List ℕ → ℕ → Settled → List Assign → Settled
settle_all t words n S [] = S
settle_all t words n S (a ∷ rest) = settle_all t words n (settle t words n S a) rest

abbrev pub unsettled : List ℕ → Settled
unsettled st = record { good = true; states = st }

-- the tokens of assignments, and what follows the last
abbrev pub assigns_left : List Assign → List Token → List Token
assigns_left xs rest = each_tokens assign_tokens xs ++ mark (ascii "endmodule") ∷ rest

pub record AssignsSay (S : Settled) (st : List ℕ) (r : Bool) : Type 0 where
  pub said : r ≡ S.good
  pub states : r ≡ true → st ≡ S.states

pub record AssignsIs (t words : List ℕ) (n at : ℕ) (st st' : List ℕ) (r : Bool) : Type 0 where
  pub gives : (xs : List Assign) (rest : List Token) → tokens (drop at t) ≡ some (assigns_left xs rest)
      → AssignsSay (settle_all t words n (unsettled st) xs) st' r
