-- The outcome of a call (docs/RULES.md, Fewest changes): questions 1 to 9, 11 with 0 to 4, 13, 22 and 14.
use Rattle.std.specs.Prelude.{ℕ, Bool, ◌&&◌, List, [], ◌∷◌, leb}
use Rattle.netlist.specs.declared.Limits.{Limits}
use Rattle.netlist.specs.Netlist.{Netlist, input_bits, output_bits}
use Rattle.netlist.specs.Outcome.{Outcome, done, ask, and_then}
use Rattle.netlist.specs.Read.{read_netlist}
use Rattle.netlist.specs.Write.{write_netlist}
use Rattle.masking.specs.Mask.{is_wanted}
use Rattle.netlist.specs.Services.{tables_long, list_good, holds}
use Rattle.fewest.specs.Choice.{Choice, is_call_code, choice, chosen_inputs}
use Rattle.fewest.specs.Fewest.{masked_under, changes_under, given, floor}

-- the masked text of the choice that is given, its input and output codes, and the tally: its changes and the floor
pub record Result : Type 0 where
  pub text : List ℕ
  pub inputs : List ℕ
  pub outputs : List ℕ
  pub tally : List ℕ

abbrev pub result_of : Netlist → List ℕ → List ℕ → ℕ → Choice → Result
result_of N codes wanted budget d = record {
  text = write_netlist (masked_under N codes wanted d).netlist;
  inputs = chosen_inputs codes d;
  outputs = (masked_under N codes wanted d).codes;
  tally = changes_under N codes wanted d ∷ floor N codes wanted budget ∷ [];
}

-- how many entries each result buffer has
pub record Room : Type 0 where
  pub text : ℕ
  pub inputs : ℕ
  pub outputs : ℕ
  pub tally : ℕ

-- question 14 of the four buffers
abbrev pub room_for : Room → Result → Bool
room_for room R = holds room.text R.text && holds room.inputs R.inputs && holds room.outputs R.outputs && holds
    room.tally R.tally

abbrev pub deliver : Room → Result → Outcome Result
deliver room R = ask 14 (room_for room R) (done R)

-- questions 11, 13, 22 and 14 of a netlist
abbrev pub fewest_outcome : List ℕ → List ℕ → ℕ → Room → Netlist → Outcome Result
fewest_outcome codes wanted budget room N =
    ask 11 (list_good is_call_code (input_bits N) codes)
    (ask 13 (list_good is_wanted (output_bits N) wanted)
    (ask 22 (leb 1 budget)
    (deliver room (result_of N codes wanted budget (choice N codes (given N codes wanted budget))))))

unfoldable pub fewest_call : Limits → List ℕ → List ℕ → List ℕ → List ℕ → ℕ → Room → Outcome Result
fewest_call L tables text codes wanted budget room =
    ask 1 (tables_long L tables) (and_then (read_netlist L text) (fewest_outcome codes wanted budget room))
