-- What the service of the twins promises of a call (docs/RULES.md, Twins).
use Rattle.std.specs.Prelude.{Ok, Result, ℕ, ◌≡◌, ◌&&◌, List, [], ◌∷◌, map, length, take}
use Rattle.netlist.specs.declared.Limits.{Limits}
use Rattle.netlist.specs.declared.Refusal.{Refusal}
use Rattle.netlist.specs.declared.Sizes.{Sizes}
use Rattle.netlist.specs.declared.Twin.{Twin}
use Rattle.netlist.specs.Netlist.{Netlist, input_bits, source_limits, masked_limits}
use Rattle.netlist.specs.Outcome.{Outcome, done, ask, and_then}
use Rattle.netlist.specs.Read.{read_netlist}
use Rattle.masking.specs.Mask.{is_input_code, finish}
use Rattle.netlist.specs.Services.{tables_long, list_good, holds, Answers, Cleared}
use Rattle.masking.specs.Calls.{MaskedText, mask_call}
use Rattle.mask_rule.specs.State.{twins_of}
use Rattle.masking.specs.Twins.{Twins}

-- for each source wire its masked wire and its code
pub record TwinLists : Type 0 where
  pub wires : List ℕ
  pub codes : List ℕ

abbrev pub wire_of : Twin → ℕ
wire_of t = t.wire

abbrev pub code_of : Twin → ℕ
code_of t = t.code

-- the twins that the masking steps leave
abbrev pub twin_lists : Netlist → List ℕ → TwinLists
twin_lists N codes = record { wires = map wire_of (finish N codes).twins; codes = map code_of (finish N codes).twins }

-- question 14 of both buffers
abbrev pub lists_outcome : ℕ → ℕ → TwinLists → Outcome TwinLists
lists_outcome wire_room code_room L = ask 14 (holds wire_room L.wires && holds code_room L.codes) (done L)

-- questions 11 and 14 of a netlist
abbrev pub twins_outcome : List ℕ → ℕ → ℕ → Netlist → Outcome TwinLists
twins_outcome codes wire_room code_room N =
    ask 11 (list_good is_input_code (input_bits N) codes) (lists_outcome wire_room code_room (twin_lists N codes))

-- questions 1 to 9, 11 and 14
unfoldable pub twins_call : Limits → List ℕ → List ℕ → List ℕ → ℕ → ℕ → Outcome TwinLists
twins_call L tables text codes wire_room code_room =
    ask 1 (tables_long L tables) (and_then (read_netlist L text) (twins_outcome codes wire_room code_room))

-- the outcome of a call that is handed its sizes, a text, a code for each input bit (0 for a public one), a buffer for
-- the wires and one for the codes, and tables of operands, results and given wires
abbrev pub call : Sizes → List ℕ → List ℕ → List ℕ → List ℕ → List ℕ → List ℕ → List ℕ → Outcome TwinLists
call s text codes wires out_codes o r g = twins_call (source_limits s) (length o ∷ length r ∷ length g ∷ []) text codes
    (length wires) (length out_codes)

-- the wires, and the codes, of a call's outcome
abbrev pub wires_in : Outcome TwinLists → Outcome (List ℕ)
wires_in call = and_then call λ L. done L.wires

abbrev pub codes_in : Outcome TwinLists → Outcome (List ℕ)
codes_in call = and_then call λ L. done L.codes

-- the answer, the wire buffer e that became x, and the code buffer f that became y, are those of a call's outcome
pub record TwinsAnswers (call : Outcome TwinLists) (e x f y : List ℕ) (a : Result ℕ Refusal) : Type 0 where
  pub wires : Answers (wires_in call) e x a
  pub codes : Answers (codes_in call) f y a

-- a masked text, and in the netlist that it reads as a twin of each wire of the source
pub record TwinsIn (s : Sizes) (source : Netlist) (codes wires out_codes masked : List ℕ) : Type 0 where
  pub netlist : Netlist
  pub back : read_netlist (masked_limits s) masked ≡ done netlist
  pub twins : Twins source codes netlist (twins_of wires out_codes)

-- what holds of the wires and codes given
pub record Given (s : Sizes) (text codes wires out_codes : List ℕ) : Type 0 where
  -- they are those of the masking steps of the source
  pub source : Netlist
  pub read : read_netlist (source_limits s) text ≡ done source
  pub steps : twins_of wires out_codes ≡ (finish source codes).twins
  -- whatever Mask writes for this text and these input codes, under any wanted codes and with any tables and buffers:
  -- each source wire has its twin there
  pub masked : (tables wanted : List ℕ) (text_room code_room : ℕ) (R : MaskedText)
      → mask_call (source_limits s) tables text codes wanted text_room code_room ≡ done R → TwinsIn s source codes wires
      out_codes R.text

-- the sizes, the text and the list, then each result buffer and each table before and after the call
pub record Promise (s : Sizes) (text codes wires wires' out_codes out_codes' o o' r r' g g' : List ℕ)
    (a : Result ℕ Refusal) : Type 0 where
  pub answers : TwinsAnswers (call s text codes wires out_codes o r g) wires wires' out_codes out_codes' a
  pub twins : (n : ℕ) → a ≡ Ok n → Given s text codes (take n wires') (take n out_codes')
  pub operands : Cleared o o'
  pub results : Cleared r r'
  pub marks : Cleared g g'
