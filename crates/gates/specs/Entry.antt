-- A gate's entries in the two tables.
use Rattle.std.specs.Prelude.{ℕ, ◌+◌, ◌*◌, ◌≡◌, [], ◌∷◌, ◌++◌}
use Rattle.netlist.specs.declared.Gate.{Gate}
use Rattle.netlist.specs.declared.Gate.TheVariants as gate
use Rattle.netlist.specs.Table.{Tables, half, gate_in, gates_of, Named, Wired}
use Rattle.gates.specs.declared.GateNumbers.{GateNumbers}
use Rattle.gates.specs.declared.Entry.{Entry}
use Rattle.gates.specs.Kind.{number}
use Rattle.gates.specs.Numbers.{Names}
use Rattle.gates.specs.declared.Kind.{Kind}
use Rattle.gates.specs.declared.Kind.TheVariants.{Xor, And, Inv, Eqw, Eq}

-- the entries of a kind, its operands and its result
abbrev pub packed : ℕ → ℕ → ℕ → ℕ → Entry
packed k a b c = record { operands = a + b * half; results = c + k * half }

-- the entries of a kind and wires: a constant has none of an operand
abbrev pub entry_for : Kind → ℕ → ℕ → ℕ → Entry
entry_for Xor a b c = packed 1 a b c
entry_for And a b c = packed 2 a b c
entry_for Inv a b c = packed 3 a a c
entry_for Eqw a b c = packed 4 a a c
entry_for (Eq v) a b c = packed (number (Eq v)) 0 0 c

-- the entries of a gate
abbrev pub entry_of : GateNumbers → Entry
entry_of g = entry_for g.kind g.left g.right g.result

-- the entries of a gate whose kind stands with its wires
abbrev pub gate_entry : Gate → Entry
gate_entry (gate.Xor a b c) = packed 1 a b c
gate_entry (gate.And a b c) = packed 2 a b c
gate_entry (gate.Inv a c) = packed 3 a a c
gate_entry (gate.Eqw a c) = packed 4 a a c
gate_entry (gate.Eq v c) = packed (number (Eq v)) 0 0 c

-- the two entries hold the gate
pub record Entered (W : ℕ) (g : Gate) (operands results : ℕ) : Type 0 where
  pub gate : gate_in operands results ≡ g
  pub named : Named W operands results

-- entries hold the gate, whatever bounds its wires
abbrev pub Enters : Gate → Entry → Type 0
Enters g e = (W : ℕ) → Names W g → Entered W g e.operands e.results

-- a gate was stored after the first n
pub record Stored (W : ℕ) (t : Tables) (n : ℕ) (g : Gate) (u : Tables) : Type 0 where
  pub gates : gates_of u (n + 1) ≡ gates_of t n ++ (g ∷ [])
  pub wired : Wired t W n → Wired u W (n + 1)
