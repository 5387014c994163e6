-- One port: an input gets the next wire, an output is counted.
use Rattle.std.specs.Prelude.{ℕ, ◌+◌, ◌≡◌, Bool, true, false, Option, Some, None, cond, ◌&&◌, List, [], ◌∷◌, ◌++◌, eqb}
use Rattle.std.specs.Prelude.{drop}
use Rattle.std.proofs.Math.Option.{some}
use Rattle.netlist.specs.Lists.{ascii}
use Rattle.verilog.specs.Tokens.{Token, name, mark, tokens}
use Rattle.verilog.specs.Syntax.{comma_tokens}
use Rattle.from_verilog.specs.Wires.{wire_of, given}
use Rattle.from_verilog.specs.States.{becomes}
use Rattle.from_verilog.specs.declared.ports.Ports.{Ports}

-- whether every port so far is one, and how many inputs and outputs there are
pub record Ported : Type 0 where
  pub good : Bool
  pub inputs : ℕ
  pub outputs : ℕ

-- the state of the name decides: 1 is an input, 2 an output, any other no port
pub record PortSays (t words : List ℕ) (n : ℕ) (w : List ℕ) (inputs outputs : ℕ) (st st' ws ws' : List ℕ) (r : Ported) :
    Type 0 where
  pub is_input : wire_of t words st n w ≡ 1 → (r ≡ record { good = true; inputs = inputs + 1; outputs = outputs })
      × (st' ≡ becomes t words st n w 1 5) ×
      (ws' ≡ given t words ws n w inputs)
  pub is_other : (wire_of t words st n w ≡ 1 → ⊥)
      → (r ≡ record { good = eqb (wire_of t words st n w) 2; inputs = inputs; outputs = outputs + 1 }) ×
      (st' ≡ becomes t words st n w 2 4) × (ws' ≡ ws)

abbrev pub PortIs : List ℕ → List ℕ → ℕ → List ℕ → ℕ → ℕ → List ℕ → List ℕ → List ℕ → List ℕ → Option Ports → Type 0
PortIs t words n w inputs outputs st st' ws ws' None =
    PortSays t words n w inputs outputs st st' ws ws' (record { good = false; inputs = inputs; outputs = outputs + 1 })
PortIs t words n w inputs outputs st st' ws ws' (Some r) =
    PortSays t words n w inputs outputs st st' ws ws' (record { good = true; inputs = r.inputs; outputs = r.outputs })

-- ---- all of them

-- whether every port so far is one, the states and the wires of names, and how many inputs and outputs there are
pub record Seated : Type 0 where
  pub good : Bool
  pub states : List ℕ
  pub wires : List ℕ
  pub inputs : ℕ
  pub outputs : ℕ

abbrev pub seat : List ℕ → List ℕ → ℕ → Seated → List ℕ → Seated
seat t words n P w =
    let σ = wire_of t words P.states n w in
    cond (eqb σ 1)
    (record {
      good = P.good;
      states = becomes t words P.states n w 1 5;
      wires = given t words P.wires n w P.inputs;
      inputs = P.inputs + 1;
      outputs =
          P.outputs;
    })
    (record {
      good = P.good && eqb σ 2;
      states = becomes t words P.states n w 2 4;
      wires = P.wires;
      inputs
          = P.inputs;
      outputs = P.outputs + 1;
    })

abbrev pub seat_all : List ℕ → List ℕ → ℕ → Seated → List (List ℕ) → Seated
seat_all t words n P [] = P
seat_all t words n P (w ∷ ws) = seat_all t words n (seat t words n P w) ws

abbrev pub unseated : List ℕ → List ℕ → Seated
unseated st ws = record { good = true; states = st; wires = ws; inputs = 0; outputs = 0 }

-- an answer is that of the ports, and what the tables hold then
pub record PortsSay (P : Seated) (st ws : List ℕ) (r : Ported) : Type 0 where
  pub said : r.good ≡ P.good
  pub states : r.good ≡ true → st ≡ P.states
  pub wires : r.good ≡ true → ws ≡ P.wires
  pub inputs : r.good ≡ true → r.inputs ≡ P.inputs
  pub outputs : r.good ≡ true → r.outputs ≡ P.outputs

-- the tokens from a port on: the ports left, the end of their list, and what follows it; after the last port, from its
-- end on
abbrev pub after_port : List (List ℕ) → List Token → List Token
after_port ws rest = comma_tokens ws ++ mark (ascii ")") ∷ mark (ascii ";") ∷ rest

abbrev pub ports_left : List (List ℕ) → List Token → List Token
ports_left [] rest = mark (ascii ";") ∷ rest
ports_left (w ∷ ws) rest = name w ∷ after_port ws rest

-- what a list of ports says
pub record PortsGive (t words : List ℕ) (n at : ℕ) (st st' ws ws' : List ℕ) (r : Ported) : Type 0 where
  pub gives : (ps : List (List ℕ)) (rest : List Token) → tokens (drop at t) ≡ some (ports_left ps rest)
      → PortsSay (seat_all t words n (unseated st ws) ps) st' ws' r

abbrev pub ported : Option Ports → Ported
ported None = record { good = false; inputs = 0; outputs = 0 }
ported (Some r) = record { good = true; inputs = r.inputs; outputs = r.outputs }

abbrev pub PortsIs : List ℕ → List ℕ → ℕ → ℕ → List ℕ → List ℕ → List ℕ → List ℕ → Option Ports → Type 0
PortsIs t words n at st st' ws ws' r = PortsGive t words n at st st' ws ws' (ported r)
