-- What the answer of the text's reader means: questions 1 to 9.
use Rattle.std.specs.Prelude.{ℕ, Result, Ok, Err, ◌-◌, ◌≤◌, ◌≡◌, true, List, take}
use Rattle.netlist.specs.declared.Limits.{Limits}
use Rattle.netlist.specs.Netlist.{Netlist}
use Rattle.netlist.specs.declared.Refusal.{Refusal}
use Rattle.netlist.specs.Refusal.{number_of}
use Rattle.netlist.specs.Outcome.{refused, done, ask}
use Rattle.netlist.specs.Services.{tables_long}
use Rattle.netlist.specs.Table.{Tables, Wired, Holds}
use Rattle.dialect.specs.declared.Dialect.{Dialect}
use Rattle.dialect.specs.declared.Dialect.TheVariants.{Fashion}
use Rattle.dialect.specs.Dialects.{read_in}
use Rattle.reader.specs.declared.header.Header.{Header}

-- the text reads in a dialect as a netlist that the tables hold, whose widths stand at the front of two tables
pub record ReadOf (d : Dialect) (L : Limits) (t ins outs : List ℕ) (tabs : Tables) (h : Header) : Type 0 where
  pub is : Netlist
  pub read : read_in d L t ≡ done is
  pub holds : Holds tabs h.gates h.wires h.input_bits h.output_bits is
  pub wired : Wired tabs h.wires h.gates
  pub inputs : take h.input_values ins ≡ is.inputs
  pub outputs : take h.output_values outs ≡ is.outputs
  pub some_in : 1 ≤ h.input_values
  pub many_in : h.input_values ≤ L.inputs
  pub many_out : h.output_values ≤ L.outputs
  pub wires : h.wires ≤ L.wires
  pub in_bits : h.input_bits ≤ h.wires
  pub out_bits : h.output_bits ≤ h.wires
  pub gates : h.gates ≡ h.wires - h.input_bits

pub record ReadNot (d : Dialect) (L : Limits) (t : List ℕ) (q : ℕ) : Type 0 where
  pub refuses : read_in d L t ≡ refused q

-- what an answer to questions 2 to 9 stands for
abbrev pub TextIs : Dialect → Limits → List ℕ → List ℕ → List ℕ → Tables → Result Header Refusal → Type 0
TextIs d L t ins outs tabs (Ok h) = ReadOf d L t ins outs tabs h
TextIs d L t ins outs tabs (Err q) = ReadNot d L t (number_of q)

-- the limits that the reader works with: the widths fit the lent tables, and so do the wires
pub record Readable (L : Limits) : Type 0 where
  pub inputs : L.inputs ≤ 17
  pub outputs : L.outputs ≤ 16
  pub wires : L.wires ≤ L.table

-- what an answer to questions 1 to 9 stands for, with lent tables of these lengths
abbrev pub ReadSays : Dialect → Limits → List ℕ → List ℕ → List ℕ → List ℕ → Tables → Result Header Refusal → Type 0
ReadSays d L lengths t ins outs tabs (Ok h) = (tables_long L lengths ≡ true) × ReadOf d L t ins outs tabs h
ReadSays d L lengths t ins outs tabs (Err q) = ask 1 (tables_long L lengths) (read_in d L t) ≡ refused (number_of q)

-- of a text in Fashion
abbrev pub ReadAt : Limits → List ℕ → List ℕ → List ℕ → Tables → Header → Type 0
ReadAt L t ins outs tabs h = ReadOf Fashion L t ins outs tabs h

abbrev pub ReadIs : Limits → List ℕ → List ℕ → List ℕ → List ℕ → Tables → Result Header Refusal → Type 0
ReadIs L lengths t ins outs tabs r = ReadSays Fashion L lengths t ins outs tabs r
