-- What showing a session promises, whatever session and lists are handed in.
use Rattle.std.specs.Prelude.{Ok, Result, ℕ, ◌≡◌, cond, List, [], ◌∷◌, ltb, length, get_or, take}
use Rattle.netlist.specs.declared.Refusal.{Refusal}
use Rattle.netlist.specs.declared.Sizes.{Sizes}
use Rattle.netlist.specs.Netlist.{Netlist, source_limits}
use Rattle.netlist.specs.Outcome.{Outcome, done}
use Rattle.netlist.specs.Read.{read_netlist}
use Rattle.netlist.specs.Write.{write_netlist}
use Rattle.masking.specs.Calls.{MaskedText}
use Rattle.netlist.specs.Services.{Answers, Cleared}
use Rattle.gates.specs.declared.records.SourceRecord.{SourceRecord}
use Rattle.gates.specs.Records.{blank_source}
use Rattle.mask.specs.Promise.{Masks}
use Rattle.mask.specs.Whole.{MaskAnswers}
use Rattle.session.specs.declared.Session.{Session}
use Rattle.session.specs.Shown.{netlist_shown, text_call, masked_call}

-- the record of gate k, blank where there is none
abbrev pub gate_shown : Session → ℕ → List SourceRecord → SourceRecord
gate_shown s k source = cond (ltb k s.gates) (get_or source k blank_source) blank_source

-- the outcome of the text's call: the widths of the input and of the output values, the session and its records, a
-- result buffer, and tables of operands and results
abbrev pub text : Sizes → List ℕ → List ℕ → Session → List SourceRecord → List ℕ → List ℕ → List ℕ → Outcome (List ℕ)
text z widths outputs s source out o r = text_call (source_limits z) (length o ∷ length r ∷ []) widths outputs s.gates
    source (length out)

-- a result is the written form of the session's netlist, and reads back as it
pub record Shows (z : Sizes) (tables widths outputs : List ℕ) (s : Session) (source : List SourceRecord)
    (result : List ℕ) : Type 0 where
  pub netlist : Netlist
  pub shown : netlist_shown (source_limits z) tables widths outputs s.gates source ≡ done netlist
  pub written : result ≡ write_netlist netlist
  pub back : read_netlist (source_limits z) result ≡ done netlist

-- the result buffer and each table before and after the call
pub record TextPromise (z : Sizes) (widths outputs : List ℕ) (s : Session) (source : List SourceRecord)
    (out out' o o' r r' : List ℕ)
    (a : Result ℕ Refusal) : Type 0 where
  pub answers : Answers (text z widths outputs s source out o r) out out' a
  pub shows : (n : ℕ) → a ≡ Ok n → Shows z (length o ∷ length r ∷ []) widths outputs s source (take n out')
  pub operands : Cleared o o'
  pub results : Cleared r r'

-- the outcome of the masked text's call: also a code for each input bit, a wanted code for each output bit, a buffer
-- for the output codes, and tables of wires and marks
abbrev pub masked : Sizes → List ℕ → List ℕ → Session → List SourceRecord → List ℕ → List ℕ → List ℕ → List ℕ → List ℕ
    → List ℕ → List ℕ → List ℕ
    → Outcome MaskedText
masked z widths outputs s source codes wanted out out_codes o r w m =
    masked_call (source_limits z) (length o ∷ length r ∷ length m ∷ length w ∷ []) widths outputs s.gates source codes
    wanted (length out) (length out_codes)

pub record MaskedPromise (z : Sizes) (widths outputs : List ℕ) (s : Session) (source : List SourceRecord)
    (codes wanted out out' out_codes out_codes' o o' r r' w w' m m' : List ℕ) (a : Result ℕ Refusal) : Type 0 where
  pub answers : MaskAnswers (masked z widths outputs s source codes wanted out out_codes o r w m) out out' out_codes
      out_codes' a
  -- it is what Mask writes for the session's text
  pub masks : (n : ℕ) → a ≡ Ok n → (t : List ℕ) × Shows z (length o ∷ length r ∷ length m ∷ length w ∷ []) widths
      outputs s source t
      × Masks z t codes wanted (take n out') out_codes'
  pub operands : Cleared o o'
  pub results : Cleared r r'
  pub wires : Cleared w w'
  pub marks : Cleared m m'
