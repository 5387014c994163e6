-- A text with its input codes, read into tables: questions 1 to 11; and question 25 of two of them.
use Rattle.std.specs.Prelude.{ℕ, ◌-◌, ◌≤◌, ◌≡◌, Result, Ok, Err, Bool, true, ◌&&◌, List, T, eqb, leb, length}
use Rattle.netlist.specs.declared.Limits.{Limits}
use Rattle.netlist.specs.declared.Refusal.{Refusal}
use Rattle.netlist.specs.Refusal.{number_of}
use Rattle.netlist.specs.Lists.{every, same_bytes}
use Rattle.netlist.specs.Netlist.{Netlist, input_bits}
use Rattle.netlist.specs.Outcome.{refused, ask}
use Rattle.masking.specs.Mask.{is_input_code}
use Rattle.netlist.specs.Services.{tables_long, list_good}
use Rattle.masking.specs.Calls.{ends_in_masks}
use Rattle.netlist.specs.Table.{Tables, Wired, Holds}
use Rattle.reader.specs.declared.header.Header.{Header}
use Rattle.reader.specs.Whole.{ReadAt}
use Rattle.join.specs.Call.{read_block, is_secret}

-- the text reads as a netlist that the tables hold, and questions 10 and 11 get a yes
pub record BlockAt (L : Limits) (text codes ins outs : List ℕ) (t : Tables) (h : Header) : Type 0 where
  pub at : ReadAt L text ins outs t h
  pub masks : T (ends_in_masks at.is.inputs)
  pub list : T (list_good is_input_code (input_bits at.is - 2) codes)

-- what an answer to questions 1 to 11 stands for, with lent tables of these lengths
abbrev pub BlockIs : Limits → List ℕ → List ℕ → List ℕ → List ℕ → List ℕ → Tables → Result Header Refusal → Type 0
BlockIs L lengths text codes ins outs t (Ok h) = (tables_long L lengths ≡ true) × BlockAt L text codes ins outs t h
BlockIs L lengths text codes ins outs t (Err q) = ask 1 (tables_long L lengths) (read_block L text codes)
    ≡ refused (number_of q)

-- the numbers of a block, besides its header's law, and its gates in tables
pub record Numbers (h : Header) (t : Tables) : Type 0 where
  pub wired : Wired t h.wires h.gates
  pub pair : 2 ≤ h.input_bits
  pub outs : h.output_bits ≤ h.wires
  pub gates : h.gates ≡ h.wires - h.input_bits

-- the tables hold N, of which the first has its input widths, and the second its output widths
pub record First (h : Header) (ins : List ℕ) (t : Tables) (N : Netlist) : Type 0 where
  pub holds : Holds t h.gates h.wires h.input_bits h.output_bits N
  pub inputs : ins ≡ N.inputs

pub record Second (h : Header) (outs : List ℕ) (t : Tables) (N : Netlist) : Type 0 where
  pub holds : Holds t h.gates h.wires h.input_bits h.output_bits N
  pub outputs : outs ≡ N.outputs

-- question 25, from the headers' numbers
abbrev pub seam_holds : Header → List ℕ → Header → List ℕ → Bool
seam_holds a out_codes b codes = eqb (length out_codes) a.output_bits && same_bytes out_codes codes && every is_secret
    codes && leb b.output_bits b.gates
