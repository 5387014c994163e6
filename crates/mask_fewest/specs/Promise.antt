-- What Mask with fewer changes promises of a call.
use Rattle.std.specs.Prelude as std
use Rattle.std.specs.Prelude.{Ok, ℕ, ◌≡◌, List, [], ◌∷◌, length, take}
use Rattle.netlist.specs.declared.Refusal.{Refusal}
use Rattle.netlist.specs.declared.Sizes.{Sizes}
use Rattle.netlist.specs.Netlist.{source_limits}
use Rattle.netlist.specs.Outcome.{Outcome, done}
use Rattle.netlist.specs.Services.{Cleared}
use Rattle.fewest.specs.Call.{Result, Room, fewest_call}
use Rattle.fewest.specs.Worth.{Worth}
use Rattle.mask_fewest.specs.Stages.{room, FewestAnswers}

-- the outcome of a call that is handed its sizes, a text, a code for each input bit (4 is free), a wanted code for each
-- output bit, a budget, the lengths of its result buffers, and tables of operands, results, wires, marks, ways, best
-- ways and spans
abbrev pub call : Sizes → List ℕ → List ℕ → List ℕ → ℕ → Room → List ℕ → List ℕ → List ℕ → List ℕ → List ℕ → List ℕ
    → List ℕ → Outcome Result
call s text codes wanted budget room o r w m y b z =
    fewest_call (source_limits s) (length o ∷ length r ∷ length m ∷ length w ∷ length y ∷ length b ∷ length z ∷ []) text
    codes wanted budget room

-- the result of an accepted call, as it stands in the buffers, and what it is worth
pub record Gives (s : Sizes) (text codes wanted : List ℕ) (budget : ℕ) (outcome : Outcome Result)
    (masked is es ts : List ℕ) : Type 0 where
  pub result : Result
  pub is-outcome : outcome ≡ done result
  pub text-is : masked ≡ result.text
  pub inputs : take (length result.inputs) is ≡ result.inputs
  pub outputs : take (length result.outputs) es ≡ result.outputs
  pub tally : take (length result.tally) ts ≡ result.tally
  pub worth : Worth s text codes wanted budget result

-- the sizes, the text, the two lists and the budget, then each result buffer and each table before and after the call
pub record Promise (s : Sizes) (text codes wanted : List ℕ) (budget : ℕ)
    (out out' is is' es es' ts ts' o o' r r' w w' m m' y y' b b' z z' : List ℕ)
    (a : std.Result ℕ Refusal) : Type 0 where
  pub answers : FewestAnswers (call s text codes wanted budget (room out is es ts) o r w m y b z) out out' is is' es es'
      ts ts' a
  pub gives : (n : ℕ) → a ≡ Ok n
      → Gives s text codes wanted budget (call s text codes wanted budget (room out is es ts) o r w m y b z)
      (take n out') is' es' ts'
  pub operands : Cleared o o'
  pub results : Cleared r r'
  pub wires : Cleared w w'
  pub marks : Cleared m m'
  pub ways : Cleared y y'
  pub best : Cleared b b'
  pub spans : Cleared z z'
