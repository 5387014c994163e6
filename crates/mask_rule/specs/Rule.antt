-- What one source gate becomes, told by its kind and its operands' twins.
use Rattle.std.specs.Prelude.{ℕ, ◌<◌, ◌≡◌, List, [], ◌∷◌, length, get_or}
use Rattle.netlist.specs.declared.Gate.{Gate}
use Rattle.netlist.specs.declared.Twin.{Twin}
use Rattle.masking.specs.Mask.{State, emit, result_twin}
use Rattle.gates.specs.declared.records.GateRecord.{GateRecord}
use Rattle.gates.specs.Records.{blank}
use Rattle.gates.specs.declared.Kind.{Kind}
use Rattle.gates.specs.Kind.{gate_for}

-- a state in which the first two source wires have the twins A and B
abbrev pub operands : ℕ → Twin → Twin → State
operands c A B = record { next = c; twins = A ∷ B ∷ [] }

-- the masked gates of a source gate of kind k, at the wires from c
abbrev pub steps_of : ℕ → ℕ → Kind → Twin → Twin → List Gate
steps_of n c k A B = emit n (operands c A B) (gate_for k 0 1 2)

-- its result's twin
abbrev pub twin_of : ℕ → Kind → Twin → Twin → Twin
twin_of c k A B = result_twin (operands c A B) (gate_for k 0 1 2)

-- r is record k of the records rs, where there is one
abbrev pub At : List GateRecord → ℕ → GateRecord → Type 0
At rs k r = k < length rs → r ≡ get_or rs k blank

-- m is how many masked gates there are, whatever the wires
abbrev pub Many : Kind → Twin → Twin → ℕ → Type 0
Many k A B m = (n c : ℕ) → m ≡ length (steps_of n c k A B)
