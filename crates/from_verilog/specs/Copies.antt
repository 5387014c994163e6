-- Copies of the outputs among ports: the names in state 6.
use Rattle.std.specs.Prelude.{ℕ, ◌+◌, ◌≡◌, List, map, eqb, drop}
use Rattle.std.proofs.Math.Option.{some}
use Rattle.netlist.specs.declared.Gate.{Gate}
use Rattle.netlist.specs.declared.Gate.TheVariants.{Eqw}
use Rattle.netlist.specs.Table.{Tables}
use Rattle.verilog.specs.Tokens.{Token, tokens}
use Rattle.verilog.specs.Equations.{chosen}
use Rattle.verilog.specs.Made.{copies}
use Rattle.from_verilog.specs.Puts.{put_gate, put_gates}
use Rattle.from_verilog.specs.Wires.{wire_of}
use Rattle.from_verilog.specs.Ports.{ports_left}

-- one port
pub record CopyIs (t words st ws : List ℕ) (count n : ℕ) (w : List ℕ) (c : ℕ) (before after : Tables) (r : ℕ) : Type 0
  where
    pub is_output : wire_of t words st count w ≡ 6 → (r ≡ c + 1)
        × (after ≡ put_gate n before (Eqw (wire_of t words ws count w) c))
    pub is_other : (wire_of t words st count w ≡ 6 → ⊥) → (r ≡ c) × (after ≡ before)

-- the gates of all ports, from wire c on
abbrev pub output_copies : List ℕ → List ℕ → List ℕ → List ℕ → ℕ → ℕ → List (List ℕ) → List Gate
output_copies t words st ws count c ps = copies c (map (wire_of t words ws count)
    (chosen (λ w. eqb (wire_of t words st count w) 6) ps))

pub record CopiesIs (t words st ws : List ℕ) (count n at c : ℕ) (before after : Tables) : Type 0 where
  pub gives : (ps : List (List ℕ)) (rest : List Token) → tokens (drop at t) ≡ some (ports_left ps rest)
      → after ≡ put_gates n before (output_copies t words st ws count c ps)
