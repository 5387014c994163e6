-- The parts of question 17, and what the tables hold of a module that keeps the rules.
use Rattle.std.specs.Prelude.{ℕ, ◌≤◌, ◌<◌, ◌≡◌, Option, Some, None, Bool, true, false, ◌&&◌, List, [], ◌∷◌, ◌++◌, eqb}
use Rattle.std.specs.Prelude.{leb, length, drop}
use Rattle.std.proofs.Math.Option.{some}
use Rattle.netlist.specs.Lists.{ascii}
use Rattle.verilog.specs.Tokens.{Token, name, mark, elem, tokens}
use Rattle.verilog.specs.Syntax.{Assign, Module, Stands}
use Rattle.verilog.specs.Rules.{all_names, outputs, wires, rules_kept}
use Rattle.verilog.specs.Equations.{input_ports, output_ports, look}
use Rattle.verilog.specs.Made.{numbered}
use Rattle.from_verilog.specs.Names.{found, Chained}
use Rattle.from_verilog.specs.Wires.{wire_of}
use Rattle.from_verilog.specs.States.{all_from}
use Rattle.from_verilog.specs.Ports.{Ported, Seated, seat_all, unseated, ports_left, PortsSay}
use Rattle.from_verilog.specs.Settled.{Settled, settle_all, unsettled, assigns_left, AssignsSay}
use Rattle.from_verilog.specs.declared.rules.Kept.{Kept}

-- the place of the first port
pub record PlaceIs (t : List ℕ) (r : ℕ) : Type 0 where
  pub within : r ≤ length t
  pub gives : (w : List ℕ) (ts : List Token) → tokens t ≡ some (mark (ascii "module") ∷ name w ∷ mark (ascii "(") ∷ ts)
      → tokens (drop r t) ≡ some ts

-- the ports seated, with every input and output among them, and some of both
abbrev pub ports_done : ℕ → Seated → Seated
ports_done n P = record {
  good = P.good && all_from P.states n 3 && leb 1 P.inputs && leb 1 P.outputs;
  states = P.states;
  wires = P.wires;
  inputs = P.inputs;
  outputs = P.outputs;
}

pub record PortsKept (t words : List ℕ) (n at : ℕ) (st st' ws ws' : List ℕ) (r : Ported) : Type 0 where
  pub gives : (ps : List (List ℕ)) (rest : List Token) → tokens (drop at t) ≡ some (ports_left ps rest) → PortsSay
      (ports_done n (seat_all t words n (unseated st ws) ps)) st' ws' r

-- the assignments settled, with every name assigned
abbrev pub assigns_done : ℕ → Settled → Settled
assigns_done n S = record { good = S.good && all_from S.states n 5; states = S.states }

pub record AssignsKept (t words : List ℕ) (n at : ℕ) (st st' : List ℕ) (r : Bool) : Type 0 where
  pub gives : (xs : List Assign) (rest : List Token) → tokens (drop at t) ≡ some (assigns_left xs rest) → AssignsSay
      (assigns_done n (settle_all t words n (unsettled st) xs)) st' r

-- the tables hold the declared names; the inputs have their wires, the outputs are in state 6
pub record KeptAt (m : Module) (t : List ℕ) (size : ℕ) (heads words links st ws : List ℕ) (r : Kept) : Type 0 where
  pub names : Chained t heads words links size r.count
  pub stated : r.count ≤ length st
  pub wired : r.count ≤ length ws
  pub input_wires : (v : List ℕ) → wire_of t words ws r.count v ≡ look 0 (numbered 0 (input_ports m)) v
  pub output_names : (v : List ℕ) → eqb (wire_of t words st r.count v) 6 ≡ elem v (outputs m)
  pub targets : (v : List ℕ) → elem v (outputs m ++ wires m) ≡ true → 0 < found t words v r.count
  pub inputs : r.inputs ≡ length (input_ports m)
  pub outputs : r.outputs ≡ length (output_ports m)
  pub ports_within : r.ports ≤ length t
  pub assigns_within : r.assigns ≤ length t
  pub items : List Token
  pub ports_at : tokens (drop r.ports t) ≡ some (ports_left (all_names m.ports) items)
  pub assigns_at : tokens (drop r.assigns t) ≡ some (assigns_left m.assigns [])

-- the answer to question 17 of a module
abbrev pub RulesSay : Module → List ℕ → ℕ → List ℕ → List ℕ → List ℕ → List ℕ → List ℕ → Option Kept → Type 0
RulesSay m t size heads words links st ws None = rules_kept m ≡ false
RulesSay m t size heads words links st ws (Some r) = (rules_kept m ≡ true) × KeptAt m t size heads words links st ws r

pub record RulesAre (t : List ℕ) (size : ℕ) (heads words links st ws : List ℕ) (r : Option Kept) : Type 0 where
  pub gives : (m : Module) → Stands m t → RulesSay m t size heads words links st ws r
