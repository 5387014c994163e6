-- The masked text and the output codes in their buffers.
use Rattle.std.specs.Prelude.{Result, ℕ, ◌-◌, ◌≡◌, List, [], ◌∷◌, ◌++◌, length, drop}
use Rattle.std.proofs.lemmas.List.Edits.{sets}
use Rattle.netlist.specs.declared.Refusal.{Refusal}
use Rattle.netlist.specs.Netlist.{Netlist}
use Rattle.netlist.specs.Table.{Tables, Holds}
use Rattle.netlist.specs.Outcome.{Outcome, done, and_then}
use Rattle.netlist.specs.Write.{write_netlist}
use Rattle.masking.specs.Mask.{Masked}
use Rattle.masking.specs.Calls.{MaskedText}
use Rattle.netlist.specs.Services.{written, Answers}
use Rattle.writer.specs.Wrote.{Wrote}
use Rattle.mask.specs.State.{codes_of}

-- a netlist that the gate tables hold, with the widths of the masked input values and of the output values
pub record Source (t : Tables) (count W n m : ℕ) (ins outs : List ℕ) (N : Netlist) : Type 0 where
  pub holds : Holds t count W n m N
  pub inputs : ins ≡ N.inputs ++ (2 ∷ [])
  pub outputs : outs ≡ N.outputs

-- the numbers of line one of a masked netlist that has m output codes
pub record Numbers (M : Masked) (m g w : ℕ) : Type 0 where
  pub gates : g ≡ length M.netlist.gates
  pub wires : w ≡ M.netlist.wires
  pub codes : length M.codes ≡ m

-- the masked text was written, up to the place r, and the table es of the codes gives the output codes
pub record WroteText (e : List ℕ) (M : Masked) (vs x es : List ℕ) (r : ℕ) : Type 0 where
  pub wrote : Wrote e 0 (write_netlist M.netlist) x r
  pub codes : codes_of (drop (length es - length vs) es) vs ≡ M.codes

-- the masked text, up to the place r, and the output codes were written, each into its buffer
pub record Filled (M : Masked) (e x f y : List ℕ) (r : ℕ) : Type 0 where
  pub wrote : Wrote e 0 (write_netlist M.netlist) x r
  pub codes : y ≡ sets f 0 M.codes

-- the text, and the codes, of a call's outcome
abbrev pub text_in : Outcome MaskedText → Outcome (List ℕ)
text_in call = and_then call λ R. done R.text

abbrev pub codes_in : Outcome MaskedText → Outcome (List ℕ)
codes_in call = and_then call λ R. done R.codes

-- the answer, the text buffer e that became x, and the code buffer f that became y, are those of a call's outcome
pub record MaskAnswers (call : Outcome MaskedText) (e x f y : List ℕ) (a : Result ℕ Refusal) : Type 0 where
  pub text : Answers (text_in call) e x a
  pub codes : y ≡ sets f 0 (written (codes_in call))
