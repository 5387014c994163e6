-- Gates as records: the kinds 1 to 5 are XOR, AND, INV, EQW and EQ; a gate with one operand has 0 as its second.
use Rattle.std.specs.Prelude.{ℕ, cond, eqb, ◌≡◌, Result}
use Rattle.std.proofs.Math.Option.{Option, none, some}
use Rattle.netlist.specs.declared.Gate.{Gate}
use Rattle.netlist.specs.declared.Gate.TheVariants.{Xor, And, Inv, Eqw, Eq}
use Rattle.netlist.specs.declared.Refusal.{Refusal}
use Rattle.netlist.specs.declared.Twin.{Twin}
use Rattle.netlist.specs.Outcome.{given}
use Rattle.netlist.specs.Services.{stands_for}
use Rattle.gates.specs.declared.Kind.{Kind}
use Rattle.gates.specs.Kind.{gate_for}
use Rattle.gates.specs.declared.records.GateRecord.{GateRecord}
use Rattle.gates.specs.declared.records.SourceRecord.{SourceRecord}

abbrev pub record4 : ℕ → ℕ → ℕ → ℕ → GateRecord
record4 k a b c = record { kind = k; first = a; second = b; result = c }

-- what stands nowhere
abbrev pub blank : GateRecord
blank = record4 0 0 0 0

-- the record of a gate
abbrev pub record_of : Gate → GateRecord
record_of (Xor a b c) = record4 1 a b c
record_of (And a b c) = record4 2 a b c
record_of (Inv a c) = record4 3 a 0 c
record_of (Eqw a c) = record4 4 a 0 c
record_of (Eq v c) = record4 5 v 0 c

-- a gate of one operand
abbrev pub single : ℕ → Gate → Option Gate
single b g = cond (eqb b 0) (some g) none

-- question 7: the gate of a record, where the record is one's
abbrev pub gate_of : GateRecord → Option Gate
gate_of r =
    cond (eqb r.kind 1) (some (Xor r.first r.second r.result))
    (cond (eqb r.kind 2) (some (And r.first r.second r.result))
    (cond (eqb r.kind 3) (single r.second (Inv r.first r.result))
    (cond (eqb r.kind 4) (single r.second (Eqw r.first r.result))
    (cond (eqb r.kind 5) (single r.second (Eq r.first r.result))
    none))))

-- the gate of a kind that has a record's numbers
abbrev pub gate_as : GateRecord → Kind → Gate
gate_as r k = gate_for k r.first r.second r.result

-- the answer to question 7: the kind of the record's gate
abbrev pub KindIs : GateRecord → Result Kind Refusal → Type 0
KindIs r a = stands_for (gate_as r) a ≡ given 7 (gate_of r)

-- a source gate with its result's twin and the place of its first masked gate
abbrev pub source_record : GateRecord → Twin → ℕ → SourceRecord
source_record r t m = record {
  kind = r.kind;
  first = r.first;
  second = r.second;
  result = r.result;
  wire = t.wire;
  from = m;
  code = t.code;
}

abbrev pub blank_source : SourceRecord
blank_source = record { kind = 0; first = 0; second = 0; result = 0; wire = 0; from = 0; code = 0 }

-- the gate, and the twin, of a source record
abbrev pub gate_in : SourceRecord → GateRecord
gate_in r = record4 r.kind r.first r.second r.result

abbrev pub twin_in : SourceRecord → Twin
twin_in r = record { wire = r.wire; code = r.code }
