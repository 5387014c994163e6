-- What the answer of an opening means.
use Rattle.std.specs.Prelude.{ℕ, Result, Ok, Err, ◌≡◌, ◌&&◌, List, [], leb, length}
use Rattle.std.proofs.lemmas.List.Edits.{sets}
use Rattle.netlist.specs.declared.Limits.{Limits}
use Rattle.netlist.specs.Lists.{sum}
use Rattle.netlist.specs.declared.Refusal.{Refusal}
use Rattle.netlist.specs.Refusal.{number_of}
use Rattle.netlist.specs.Outcome.{Outcome, refused, done, ask, and_then}
use Rattle.netlist.specs.Header.{Header}
use Rattle.netlist.specs.Read.{opening}
use Rattle.reader.specs.declared.header_lines.HeaderNumbers.{HeaderNumbers}
use Rattle.reader.specs.declared.header.Header.{Header as Admitted}
use Rattle.reader.specs.HeadAnswers.{header_numbers}
use Rattle.reader.specs.Calls.{AtCall}
use Rattle.reader.specs.declared.gate_reader.GateReader.{GateReader}

-- a header's numbers: the gate count, W, and of the values in and out how many there are and their bits
abbrev pub numbers_of : Header → HeaderNumbers
numbers_of H = record {
  gates = H.count;
  wires = H.wires;
  input_values = length H.inputs;
  input_bits = sum H.inputs;
  output_values = length H.outputs;
  output_bits = sum H.outputs;
}

-- questions 2 to 6 of t, and 14 of buffers with room for i input and o output widths
unfoldable pub opening_call : Limits → List ℕ → ℕ → ℕ → Outcome Header
opening_call L t i o = and_then (opening L t) λ H. ask 14 (leb (length H.inputs) i && leb (length H.outputs) o) (done H)

-- what an answer stands for
abbrev pub opening_said : Result (Admitted × GateReader) Refusal → Outcome HeaderNumbers
opening_said (Ok (h, r)) = done (header_numbers h)
opening_said (Err q) = refused (number_of q)

-- the widths that an opening gives: none on a refusal
abbrev pub widths : (Header → List ℕ) → Outcome Header → List ℕ
widths side (refused q) = []
widths side (done H) = side H

-- an accepted opening gives a reader of the text, before its first call
abbrev pub Placed : Limits → List ℕ → Result (Admitted × GateReader) Refusal → Type 0
Placed L t (Ok (h, r)) = (r.text.now ≡ t) × AtCall L t 0 r.at
Placed L t (Err q) = Unit {0}

-- the answer and the two buffers, each before and after, are those of opening t
pub record OpeningIs (L : Limits) (t ins ins' outs outs' : List ℕ) (r : Result (Admitted × GateReader) Refusal) : Type 0
  where
    pub said : opening_said r ≡ (and_then (opening_call L t (length ins) (length outs)) λ H. done (numbers_of H))
    pub inputs : ins' ≡ sets ins 0 (widths (λ H. H.inputs) (opening_call L t (length ins) (length outs)))
    pub outputs : outs' ≡ sets outs 0 (widths (λ H. H.outputs) (opening_call L t (length ins) (length outs)))
    pub place : Placed L t r
