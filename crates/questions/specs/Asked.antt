-- Questions 10 and 11.
use Rattle.std.specs.Prelude.{ℕ, ◌-◌, Result, Ok, Err, List}
use Rattle.netlist.specs.declared.Refusal.{Refusal}
use Rattle.netlist.specs.Refusal.{number_of}
use Rattle.netlist.specs.Lists.{sum}
use Rattle.netlist.specs.Outcome.{Outcome, refused, done, ask}
use Rattle.netlist.specs.Services.{list_good}
use Rattle.masking.specs.Mask.{is_input_code}
use Rattle.masking.specs.Calls.{ends_in_masks}
use Rattle.questions.specs.declared.codes.Codes.{Codes}

-- questions 10 and 11, of the widths of the input values and the input codes
abbrev pub codes_asked : List ℕ → List ℕ → Outcome Unit
codes_asked widths codes = ask 10 (ends_in_masks widths) (ask 11 (list_good is_input_code (sum widths - 2) codes)
    (done tt))

-- what the answer to them stands for
abbrev pub asked_of : Result Codes Refusal → Outcome Unit
asked_of (Ok admitted) = done tt
asked_of (Err q) = refused (number_of q)
