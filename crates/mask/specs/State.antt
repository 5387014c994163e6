-- What a source gate makes of the masker's state, and the codes of the outputs.
use Rattle.std.specs.Prelude.{ℕ, ◌+◌, ◌*◌, ◌≤◌, ◌≡◌, List, [], ◌∷◌}
use Rattle.netlist.specs.declared.Gate.{Gate}
use Rattle.netlist.specs.Table.{Tables, gates_of}
use Rattle.masking.specs.Mask.{State, emit, advance, emit_all, advance_all, out_code}
use Rattle.writer.specs.WrittenGates.{WroteGates}

-- the output codes, from the codes of the output bits' twins
abbrev pub codes_of : List ℕ → List ℕ → List ℕ
codes_of [] ws = []
codes_of (e ∷ es) [] = []
codes_of (e ∷ es) (w ∷ ws) = out_code e w ∷ codes_of es ws

-- a source gate was masked: its gates are written, and the state has advanced, by at most eight wires
pub record WroteStep (e : List ℕ) (at n : ℕ) (S : State) (g : Gate) (x : List ℕ) (r : ℕ × ℕ) (S' : State) : Type 0 where
  pub wrote : WroteGates e at (emit n S g) x r.0
  pub state : S' ≡ advance S g
  pub grown : r.1 ≤ S.next + 8

-- the tables' first m gates were masked
pub record WroteAll (e : List ℕ) (at n : ℕ) (S : State) (t : Tables) (m : ℕ) (x : List ℕ) (r : ℕ × ℕ) (S' : State) :
    Type 0 where
  pub wrote : WroteGates e at (emit_all n S (gates_of t m)) x r.0
  pub state : S' ≡ advance_all S (gates_of t m)
  pub grown : r.1 ≤ S.next + 8 * m
