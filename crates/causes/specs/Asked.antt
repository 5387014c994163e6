-- Questions 10 to 12 of a netlist, before anything else.
use Rattle.std.specs.Prelude.{ℕ, ◌+◌, ◌≤◌, Result, Ok, Err, List, ◌≡◌, length}
use Rattle.netlist.specs.declared.Refusal.{Refusal}
use Rattle.netlist.specs.Refusal.{number_of}
use Rattle.netlist.specs.Netlist.{Netlist}
use Rattle.netlist.specs.Outcome.{Outcome, refused}
use Rattle.masking.specs.Calls.{max_checked}
use Rattle.questions.specs.declared.codes.Codes.{Codes}
use Rattle.causes.specs.Promise.{explained}

-- the codes are few enough, and one for each input wire before the mask pair
pub record FewCodes (codes : List ℕ) (W : ℕ) (admitted : Codes) : Type 0 where
  pub same : admitted.list.now ≡ codes
  pub few : length codes ≤ max_checked
  pub inputs : length codes + 2 ≤ W

-- what follows decides; or one of the questions refuses
abbrev pub Admitted : Netlist → List ℕ → Result Codes Refusal → Type 0
Admitted N codes (Ok admitted) = (rest : Outcome (List ℕ)) → explained rest codes N ≡ rest
Admitted N codes (Err q) = (rest : Outcome (List ℕ)) → explained rest codes N ≡ refused (number_of q)
