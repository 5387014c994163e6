-- The first refused place of a text (docs/RULES.md, Questions).
use Rattle.std.specs.Prelude.{ℕ, Option, Some, None, ◌-◌, ◌<◌, ◌≡◌, cond, List, [], eqb, length, drop}
use Rattle.std.proofs.Math.Option.{some}
use Rattle.netlist.specs.declared.Limits.{Limits}
use Rattle.netlist.specs.declared.Refusal.{Refusal}
use Rattle.netlist.specs.declared.Refusal.TheVariants as Q
use Rattle.netlist.specs.Refusal.{number_of}
use Rattle.netlist.specs.Lists.{sum}
use Rattle.netlist.specs.Netlist.{Netlist}
use Rattle.netlist.specs.Outcome.{refused, done}
use Rattle.netlist.specs.Text.{word_lines}
use Rattle.netlist.specs.Header.{Header, header}
use Rattle.netlist.specs.Read.{gate_lines, read_netlist}
use Rattle.reader.specs.declared.header_lines.HeaderNumbers.{HeaderNumbers}
use Rattle.reader.specs.Opens.{numbers_of}
use Rattle.places.specs.Bytes.{FirstByte}
use Rattle.places.specs.HeaderLines.{HeaderRefused}
use Rattle.places.specs.Limits.{first_over}
use Rattle.places.specs.Lines.{FirstLine, AllPass}
use Rattle.places.specs.declared.fault.Fault.{Fault}
use Rattle.places.specs.declared.fault.Spot.{Spot}
use Rattle.places.specs.declared.fault.Spot.TheVariants.{Byte, Word}
use Rattle.places.specs.declared.lines.RefusedLine.{RefusedLine}

abbrev pub refusal : Refusal → Spot → ℕ → ℕ → Fault
refusal q spot have most = record { question = q; spot = spot; have = have; most = most }

-- question 6 of a header and so many gate lines: the gate count and W less the input bits, or the number of lines
abbrev pub count_refused : HeaderNumbers → ℕ → Option Fault
count_refused h lines =
    cond (eqb h.gates (h.wires - h.input_bits))
    (cond (eqb lines h.gates) None (Some (refusal Q.Count (Word 0 0) h.gates lines)))
    (Some (refusal Q.Count (Word 0 0) h.gates (h.wires - h.input_bits)))

-- the first place that a question is put to in vain, where each question before it gets a yes: the first byte past the
-- limit; the first byte that may not stand; the first header line not of its form; the first limit that is passed; the
-- gate count; the first gate line refused, with every line before it passed
pub data FirstRefused (L : Limits) (t : List ℕ) : Fault → Type 0 where
  long : L.text < length t → FirstRefused L t (refusal Q.Length (Byte L.text) (length t) L.text)
  byte : (at : ℕ) → FirstByte t at → FirstRefused L t (refusal Q.Bytes (Byte at) 0 0)
  header_line : (k : ℕ) → HeaderRefused (word_lines t) k → FirstRefused L t (refusal Q.Header (Word k 0) 0 0)
  limit : (H : Header) → header (word_lines t) ≡ some H → (f : Fault) → first_over L (numbers_of H) ≡ Some f
      → FirstRefused L t f
  count : (H : Header) → header (word_lines t) ≡ some H → (f : Fault)
      → count_refused (numbers_of H) (length (drop 3 (word_lines t))) ≡ Some f → FirstRefused L t f
  line : (H : Header) → header (word_lines t) ≡ some H → (r : RefusedLine)
      → FirstLine (sum H.inputs) H.wires (drop 3 (word_lines t)) r
      → FirstRefused L t (refusal r.question (Word r.line r.word) 0 0)

-- question 5 refuses a header's numbers, or it does not and question 6 does
pub data HeaderNot (L : Limits) (h : HeaderNumbers) (lines : ℕ) (f : Fault) : Type 0 where
  past_limit : first_over L h ≡ Some f → HeaderNot L h lines f
  miscounted : first_over L h ≡ None → count_refused h lines ≡ Some f → HeaderNot L h lines f

-- one of questions 7 to 9 refuses a line after a header
pub record LineNot (h : HeaderNumbers) (ls : List (List (List ℕ))) (f : Fault) : Type 0 where
  pub line : RefusedLine
  pub first : FirstLine h.input_bits h.wires ls line
  pub refuses : gate_lines h.input_bits h.wires [] ls ≡ refused (number_of line.question)
  pub told : f ≡ refusal line.question (Word line.line line.word) 0 0

-- the text reads as a netlist
pub record Reads (L : Limits) (t : List ℕ) : Type 0 where
  pub is : Netlist
  pub read : read_netlist L t ≡ done is

-- the text reads as a netlist, or a question refuses it, at this place
abbrev pub FoundIs : Limits → List ℕ → Option Fault → Type 0
FoundIs L t None = Reads L t
FoundIs L t (Some f) = (read_netlist L t ≡ refused (number_of f.question)) × FirstRefused L t f

-- ---- what the functions in between promise

-- questions 5 and 6 of a header's numbers and so many gate lines: the first that gets a no, or what both say
abbrev pub HeaderFaultIs : Limits → HeaderNumbers → ℕ → Option Fault → Type 0
HeaderFaultIs L h lines (Some f) = HeaderNot L h lines f
HeaderFaultIs L h lines None = (first_over L h ≡ None) × (count_refused h lines ≡ None)

-- questions 7 to 9 of the lines after a header
abbrev pub LineFaultIs : HeaderNumbers → List (List (List ℕ)) → Option Fault → Type 0
LineFaultIs h ls (Some f) = LineNot h ls f
LineFaultIs h ls None = AllPass h.input_bits h.wires ls
