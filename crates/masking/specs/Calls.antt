-- The outcome of each call of Mask and of Check, as a function of all that it is handed: the lengths of its working
-- tables, the text, the lists, and the lengths of its result buffers.
use Rattle.std.specs.Prelude.{ℕ, ◌-◌, Bool, ◌&&◌, List, eqb, leb, length, get_or}
use Rattle.std.proofs.Math.Option.{Option}
use Rattle.netlist.specs.declared.Limits.{Limits}
use Rattle.netlist.specs.Netlist.{Netlist, input_bits, output_bits}
use Rattle.netlist.specs.Outcome.{Outcome, done, ask, and_then}
use Rattle.netlist.specs.Read.{read_netlist}
use Rattle.netlist.specs.Write.{write_netlist}
use Rattle.netlist.specs.Services.{tables_long, list_good, holds}
use Rattle.masking.specs.Mask.{is_input_code, is_wanted, Masked, mask_netlist}
use Rattle.masking.specs.Leak.{Found, leak}

-- ---- Mask

-- the masked text, and the code of each output bit
pub record MaskedText : Type 0 where
  pub text : List ℕ
  pub codes : List ℕ

abbrev pub masked_text : Masked → MaskedText
masked_text M = record { text = write_netlist M.netlist; codes = M.codes }

-- question 14 of both buffers
abbrev pub deliver_outcome : ℕ → ℕ → MaskedText → Outcome MaskedText
deliver_outcome text_room code_room R = ask 14 (holds text_room R.text && holds code_room R.codes) (done R)

-- questions 11, 13 and 14 of a netlist
abbrev pub mask_outcome : List ℕ → List ℕ → ℕ → ℕ → Netlist → Outcome MaskedText
mask_outcome codes wanted text_room code_room N =
    ask 11 (list_good is_input_code (input_bits N) codes)
    (ask 13 (list_good is_wanted (output_bits N) wanted)
    (deliver_outcome text_room code_room (masked_text (mask_netlist N codes wanted))))

-- questions 1 to 9, 11, 13 and 14
unfoldable pub mask_call : Limits → List ℕ → List ℕ → List ℕ → List ℕ → ℕ → ℕ → Outcome MaskedText
mask_call L tables text codes wanted text_room code_room =
    ask 1 (tables_long L tables) (and_then (read_netlist L text) (mask_outcome codes wanted text_room code_room))

-- ---- Check

-- question 10: two or more input values, the last of width 2
abbrev pub ends_in_masks : List ℕ → Bool
ends_in_masks widths = leb 2 (length widths) && eqb (get_or widths (length widths - 1) 0) 2

-- the most input bits besides the mask pair, of question 12
abbrev pub max_checked : ℕ
max_checked = 12

-- questions 10 to 12 of a netlist; the answer is none where it is clean
abbrev pub check_outcome : List ℕ → Netlist → Outcome (Option Found)
check_outcome codes N =
    ask 10 (ends_in_masks N.inputs)
    (ask 11 (list_good is_input_code (input_bits N - 2) codes)
    (ask 12 (leb (length codes) max_checked)
    (done (leak N codes))))

-- questions 1 to 12
unfoldable pub check_call : Limits → List ℕ → List ℕ → List ℕ → Outcome (Option Found)
check_call L tables text codes = ask 1 (tables_long L tables) (and_then (read_netlist L text) (check_outcome codes))
