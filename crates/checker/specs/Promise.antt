-- What Check promises of a call.
use Rattle.std.specs.Prelude as std
use Rattle.std.specs.Prelude.{ℕ, Result, ◌≡◌, List, [], ◌∷◌, length}
use Rattle.std.proofs.Math.Option.{Option}
use Rattle.netlist.specs.declared.Refusal.{Refusal}
use Rattle.netlist.specs.declared.Sizes.{Sizes}
use Rattle.netlist.specs.Netlist.{Netlist, masked_limits}
use Rattle.netlist.specs.Outcome.{Outcome, done}
use Rattle.netlist.specs.Read.{read_netlist}
use Rattle.masking.specs.Leak.{Found}
use Rattle.masking.specs.Calls.{check_call}
use Rattle.netlist.specs.Services.{Cleared}
use Rattle.leak_search.specs.declared.difference.Leak.{Leak}
use Rattle.checker.specs.Verdict.{outcome_of, Judged}

-- the outcome of a call that is handed its sizes, a text, input codes, and tables of operands, results, given wires,
-- words and base words
abbrev pub call : Sizes → List ℕ → List ℕ → List ℕ → List ℕ → List ℕ → List ℕ → List ℕ → Outcome (Option Found)
call s text codes o r g w b = check_call (masked_limits s) (length o ∷ length r ∷ length g ∷ length w ∷ length b ∷ [])
    text codes

-- the sizes, the text and the input codes, then each table before and after the call
pub record Promise (s : Sizes) (text codes o o' r r' g g' w w' b b' : List ℕ) (a : Result (std.Option (Leak ℕ)) Refusal)
    : Type 0 where
  pub outcome : outcome_of a ≡ call s text codes o r g w b
  -- the answer judges the netlist that the text reads as
  pub judged : (N : Netlist) → read_netlist (masked_limits s) text ≡ done N → Judged N codes a
  pub operands : Cleared o o'
  pub results : Cleared r r'
  pub marks : Cleared g g'
  pub words : Cleared w w'
  pub base : Cleared b b'
