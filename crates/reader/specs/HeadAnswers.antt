-- What the answer on a text's head means: questions 2 to 6, but for the number of gate lines.
use Rattle.std.specs.Prelude.{ℕ, Option, Some, None, Result, Ok, Err, ◌-◌, ◌≤◌, ◌≡◌, Bool, true, false, ◌&&◌, List, eqb}
use Rattle.std.specs.Prelude.{leb, length}
use Rattle.netlist.specs.declared.Limits.{Limits}
use Rattle.netlist.specs.declared.Refusal.{Refusal}
use Rattle.netlist.specs.Refusal.{number_of}
use Rattle.netlist.specs.Outcome.{refused, done, ask}
use Rattle.netlist.specs.Text.{word_lines}
use Rattle.netlist.specs.Read.{bytes_allowed}
use Rattle.dialect.specs.declared.Dialect.{Dialect}
use Rattle.dialect.specs.declared.Dialect.TheVariants.{Fashion}
use Rattle.dialect.specs.Dialects.{opening_in}
use Rattle.reader.specs.HeaderAnswers.{HeaderOf}
use Rattle.text.specs.Cursors.{left}
use Rattle.text.specs.declared.cursor.Cursor.{Cursor}
use Rattle.reader.specs.declared.header_lines.HeaderNumbers.{HeaderNumbers}
use Rattle.reader.specs.declared.header.Header.{Header}

-- question 5 of a header's numbers
unfoldable pub within_numbers : Limits → HeaderNumbers → Bool
within_numbers L h =
    leb h.wires L.wires && leb h.input_values L.inputs && leb h.output_values L.outputs && leb h.input_bits h.wires &&
    leb
    h.output_bits h.wires

-- the numbers of a header, without its law
abbrev pub header_numbers : Header → HeaderNumbers
header_numbers h = record {
  gates = h.gates;
  wires = h.wires;
  input_values = h.input_values;
  input_bits = h.input_bits;
  output_values = h.output_values;
  output_bits = h.output_bits;
}

-- the answer to question 5: the numbers again where it gets a yes
abbrev pub WithinIs : Limits → HeaderNumbers → Option Header → Type 0
WithinIs L h (Some g) = (within_numbers L h ≡ true) × (h ≡ header_numbers g)
WithinIs L h None = within_numbers L h ≡ false

-- the first half of question 6: the gate count is W less n
unfoldable pub gates_counted : Header → Bool
gates_counted h = eqb h.gates (h.wires - h.input_bits)

-- what both give, besides the header's law
pub record Inside (L : Limits) (h : Header) : Type 0 where
  pub wires : h.wires ≤ L.wires
  pub inputs : h.input_values ≤ L.inputs
  pub outputs : h.output_values ≤ L.outputs
  pub outs : h.output_bits ≤ h.wires
  pub gates : h.gates ≡ h.wires - h.input_bits

-- the head of t in a dialect is admitted, and whether t opens is left to the number of lines after c
pub record HeadOf (d : Dialect) (L : Limits) (t ins outs : List ℕ) (h : Header) (c : Cursor) : Type 0 where
  pub header : HeaderOf d t ins outs (header_numbers h) c
  pub inside : Inside L h
  pub opens : opening_in d L t ≡ ask 6 (eqb (length (word_lines (left c))) h.gates) (done header.is)

-- a question before the gate lines gets a no
pub record NoHead (d : Dialect) (L : Limits) (t : List ℕ) (q : ℕ) : Type 0 where
  pub refuses : opening_in d L t ≡ refused q

-- questions 2 and 3 of a text, in any dialect
abbrev pub BytesIs : Limits → List ℕ → Result Unit Refusal → Type 0
BytesIs L t (Ok u) = (length t ≤ L.text) × (bytes_allowed t ≡ true)
BytesIs L t (Err q) = (d : Dialect) → NoHead d L t (number_of q)

abbrev pub HeadSays : Dialect → Limits → List ℕ → List ℕ → List ℕ → Result (Header × Cursor) Refusal → Type 0
HeadSays d L t ins outs (Ok (h, c)) = HeadOf d L t ins outs h c
HeadSays d L t ins outs (Err q) = NoHead d L t (number_of q)

-- with the header of Bristol Fashion
abbrev pub HeadAt : Limits → List ℕ → List ℕ → List ℕ → Header → Cursor → Type 0
HeadAt L t ins outs h c = HeadOf Fashion L t ins outs h c

abbrev pub HeadNot : Limits → List ℕ → ℕ → Type 0
HeadNot L t q = NoHead Fashion L t q

abbrev pub HeadIs : Limits → List ℕ → List ℕ → List ℕ → Result (Header × Cursor) Refusal → Type 0
HeadIs L t ins outs r = HeadSays Fashion L t ins outs r
