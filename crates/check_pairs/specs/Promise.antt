-- What Check with pairs promises of a call (docs/RULES.md, Pairs).
use Rattle.std.specs.Prelude.{ℕ, Result, Ok, true, ◌≡◌, List, [], ◌∷◌, length}
use Rattle.netlist.specs.declared.Refusal.{Refusal}
use Rattle.netlist.specs.declared.Sizes.{Sizes}
use Rattle.netlist.specs.Netlist.{Netlist, masked_limits}
use Rattle.netlist.specs.Outcome.{Outcome, done}
use Rattle.netlist.specs.Read.{read_netlist}
use Rattle.masking.specs.Leak.{Found}
use Rattle.netlist.specs.Services.{tables_long, Cleared}
use Rattle.masking.specs.Calls.{check_call}
use Rattle.leak_search.specs.Search.{found_of}
use Rattle.check_pairs.specs.declared.search.PairsFound.{PairsFound}
use Rattle.check_pairs.specs.Call.{BothAnswers, pairs_call}
use Rattle.check_pairs.specs.Judge.{outcome_of, Judged}

-- the outcome of a call that is handed its sizes, a text, input codes, a list of pairs, and tables of operands,
-- results, given wires, words, base counts and base words
abbrev pub call : Sizes → List ℕ → List ℕ → List ℕ → List ℕ → List ℕ → List ℕ → List ℕ → List ℕ → List ℕ
    → Outcome (BothAnswers Found)
call s text codes pairs o r g w b z = pairs_call (masked_limits s)
    (length o ∷ length r ∷ length g ∷ length w ∷ length b ∷ length z ∷ []) text codes pairs

-- the sizes, the text, the input codes and the pairs, then each table before and after the call
pub record Promise (s : Sizes) (text codes pairs o o' r r' g g' w w' b b' z z' : List ℕ)
    (a : Result (PairsFound ℕ) Refusal) : Type 0 where
  pub outcome : outcome_of a ≡ call s text codes pairs o r g w b z
  -- the answers judge the netlist that the text reads as
  pub judged : (N : Netlist) → read_netlist (masked_limits s) text ≡ done N → Judged N codes pairs a
  -- the one-wire answer is what Check gives, with any tables that are long enough for it
  pub check : (f : PairsFound ℕ) → a ≡ Ok f → (tables : List ℕ) → tables_long (masked_limits s) tables ≡ true
      → check_call (masked_limits s) tables text codes ≡ done (found_of f.leak)
  pub operands : Cleared o o'
  pub results : Cleared r r'
  pub marks : Cleared g g'
  pub words : Cleared w w'
  pub base : Cleared b b'
  pub bases : Cleared z z'
