-- The gate reader's answers as C reads them.
use Rattle.std.specs.Prelude.{ℕ, Option, Some, None, Result, Ok, Err, ◌≡◌, List}
use Rattle.netlist.specs.declared.Gate.{Gate}
use Rattle.netlist.specs.declared.Limits.{Limits}
use Rattle.netlist.specs.declared.Refusal.{Refusal}
use Rattle.netlist.specs.Refusal.{number_of}
use Rattle.gates.specs.declared.records.GateRecord.{GateRecord}
use Rattle.gates.specs.Records.{record_of}
use Rattle.reader.specs.declared.header.Header.{Header}
use Rattle.reader.specs.declared.gate_reader.GateReader.{GateReader}
use Rattle.reader.specs.Opens.{OpeningIs}
use Rattle.reader.specs.Calls.{CurrentIs}
use Rattle.capi.specs.declared.reading.OpenAnswer.{OpenAnswer}
use Rattle.capi.specs.declared.reading.NextAnswer.{NextAnswer}

abbrev pub open_answer : Result (Header × GateReader) Refusal → OpenAnswer
open_answer (Ok (h, r)) = record {
  at = r.at;
  input_values = h.input_values;
  output_values = h.output_values;
  input_bits = h.input_bits;
  output_bits = h.output_bits;
  wires = h.wires;
  gates = h.gates;
  refused = 0;
}
open_answer (Err q) = record {
  at = 0;
  input_values = 0;
  output_values = 0;
  input_bits = 0;
  output_bits = 0;
  wires = 0;
  gates = 0;
  refused = number_of q;
}

-- what opening a reader promises of its answer
pub record OpenTold (L : Limits) (t ins ins' outs outs' : List ℕ) (a : OpenAnswer) : Type 0 where
  pub answer : Result (Header × GateReader) Refusal
  pub opening : OpeningIs L t ins ins' outs outs' answer
  pub told : a ≡ open_answer answer

abbrev pub no_gate : GateRecord
no_gate = record { kind = 0; first = 0; second = 0; result = 0 }

abbrev pub next_answer : ℕ → Result (Option (Gate × ℕ)) Refusal → NextAnswer
next_answer at (Ok (Some (g, to))) = record { gate = record_of g; at = to; refused = 0 }
next_answer at (Ok None) = record { gate = no_gate; at = at; refused = 0 }
next_answer at (Err q) = record { gate = no_gate; at = at; refused = number_of q }

-- what the reader at a place says: before its k-th call, the k-th answer; and the place told is then that before the next
pub record NextTold (t : List ℕ) (at : ℕ) (a : NextAnswer) : Type 0 where
  pub step : Result (Option (Gate × ℕ)) Refusal
  pub says : CurrentIs t at step
  pub told : a ≡ next_answer at step
