-- What reading an AIGER file promises of a call.
use Rattle.std.specs.Prelude.{Ok, Result, ℕ, ◌≡◌, List, [], ◌∷◌, length, take}
use Rattle.netlist.specs.declared.Refusal.{Refusal}
use Rattle.netlist.specs.declared.Sizes.{Sizes}
use Rattle.netlist.specs.Netlist.{source_limits}
use Rattle.netlist.specs.Outcome.{Outcome}
use Rattle.netlist.specs.Services.{Answers, Cleared}
use Rattle.aiger.specs.Call.{aiger_call}
use Rattle.aiger.specs.Delivered.{Delivered}

-- the outcome of a call that is handed its sizes, a text, a result buffer, and tables of operands, results and
-- variables
abbrev pub call : Sizes → List ℕ → List ℕ → List ℕ → List ℕ → List ℕ → Outcome (List ℕ)
call s text out o r v = aiger_call (source_limits s) (length o ∷ length r ∷ length v ∷ []) text (length out)

-- the sizes and the text, then the result buffer and each table before and after the call
pub record Promise (s : Sizes) (text out out' o o' r r' v v' : List ℕ) (a : Result ℕ Refusal) : Type 0 where
  pub answers : Answers (call s text out o r v) out out' a
  -- the text written reads back as the netlist made, which is well formed and computes the file's outputs
  pub delivered : (n : ℕ) → a ≡ Ok n → Delivered (source_limits s) text (take n out')
  pub operands : Cleared o o'
  pub results : Cleared r r'
  pub variables : Cleared v v'
