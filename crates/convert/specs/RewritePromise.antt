-- What Rewrite promises of a call.
use Rattle.std.specs.Prelude.{Ok, Result, ℕ, ◌≡◌, List, [], ◌∷◌, length, take}
use Rattle.netlist.specs.declared.Refusal.{Refusal}
use Rattle.netlist.specs.declared.Sizes.{Sizes}
use Rattle.netlist.specs.Netlist.{Netlist, masked_limits}
use Rattle.netlist.specs.Outcome.{Outcome, done}
use Rattle.netlist.specs.Read.{read_netlist}
use Rattle.netlist.specs.Services.{rewrite_call, Answers, Cleared}

-- the outcome of a call that is handed its sizes, a text, a result buffer, and tables of operands, results and given
-- wires
abbrev pub call : Sizes → List ℕ → List ℕ → List ℕ → List ℕ → List ℕ → Outcome (List ℕ)
call s text out o r g = rewrite_call (masked_limits s) (length o ∷ length r ∷ length g ∷ []) text (length out)

-- the sizes and the text, then the result buffer and each table before and after the call
pub record Promise (s : Sizes) (text out out' o o' r r' g g' : List ℕ) (a : Result ℕ Refusal) : Type 0 where
  pub answers : Answers (call s text out o r g) out out' a
  -- the text written reads back as the netlist that was read
  pub same : (n : ℕ) (N : Netlist) → a ≡ Ok n → read_netlist (masked_limits s) text ≡ done N
      → read_netlist (masked_limits s) (take n out') ≡ done N
  pub operands : Cleared o o'
  pub results : Cleared r r'
  pub marks : Cleared g g'
