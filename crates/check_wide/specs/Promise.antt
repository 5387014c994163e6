-- What the check of netlists with many inputs promises of a call (docs/RULES.md, Many inputs).
use Rattle.std.specs.Prelude.{Option, Some, None, Result, Ok, Err, ℕ, List, [], ◌∷◌, ◌≡◌, length}
use Rattle.netlist.specs.declared.Refusal.{Refusal}
use Rattle.netlist.specs.declared.Sizes.{Sizes}
use Rattle.netlist.specs.Netlist.{Netlist, masked_limits}
use Rattle.netlist.specs.Outcome.{Outcome, done}
use Rattle.netlist.specs.Read.{read_netlist}
use Rattle.masking.specs.Leak as L
use Rattle.netlist.specs.Services.{Cleared}
use Rattle.check_pairs.specs.Pairs.{PairsJudged}
use Rattle.check_pairs.specs.Call.{BothAnswers}
use Rattle.check_pairs.specs.Search.{bad_of}
use Rattle.check_wide.specs.Wide.{WideLeak, wide_call}
use Rattle.check_wide.specs.Told as search
use Rattle.check_wide.specs.Told.{WideFound, OnesTold}
use Rattle.check_wide.specs.Verdict.{outcome_of}

-- the outcome of a call that is handed its sizes, a text, input codes, a list of pairs, and tables of operands,
-- results, marks, words, base counts, base words, four of sets and one of paints
abbrev pub call : Sizes → List ℕ → List ℕ → List ℕ → List ℕ → List ℕ → List ℕ → List ℕ → List ℕ → List ℕ → List ℕ
    → List ℕ → List ℕ → List ℕ → List ℕ
    → Outcome (BothAnswers WideLeak)
call s text codes pairs o r g w b z s0 s1 s2 s3 p =
    wide_call (masked_limits s) (length o ∷ length r ∷ length g ∷ length w ∷ length b ∷ length z ∷ length s0 ∷ length s1
    ∷ length s2 ∷ length s3 ∷ length p ∷ [])
    text codes pairs

-- the equal-count rule, as the one-wire answer has it: clean, so every wire meets the rule for all settings of all
-- inputs; or a leak, so one does not
abbrev pub WiresJudged : Netlist → List ℕ → Option search.WideLeak → Type 0
WiresJudged N codes None = L.Clean N codes
WiresJudged N codes (Some p) = L.Clean N codes → ⊥

-- both answers of a netlist under input codes and a list of pairs; a refusal says nothing
abbrev pub Judged : Netlist → List ℕ → List ℕ → Result WideFound Refusal → Type 0
Judged N codes ws (Ok f) = WiresJudged N codes f.leak × PairsJudged N codes ws (bad_of f.pair)
Judged N codes ws (Err q) = Unit

-- the sizes, the text, the input codes and the pairs, then each table before and after the call
pub record Promise (s : Sizes) (text codes pairs o o' r r' g g' w w' b b' z z' s0 s0' s1 s1' s2 s2' s3 s3' p p' : List
    ℕ)
    (a : Result WideFound Refusal) : Type 0 where
  -- the answers are those of the check over all settings of all inputs
  pub outcome : outcome_of a ≡ call s text codes pairs o r g w b z s0 s1 s2 s3 p
  -- a leak tells as many input bits as it says, one to twelve, in rising order
  pub ones : (f : WideFound) → a ≡ Ok f → (p : search.WideLeak) → f.leak ≡ Some p → OnesTold p
  -- they judge the netlist that the text reads as
  pub judged : (N : Netlist) → read_netlist (masked_limits s) text ≡ done N → Judged N codes pairs a
  pub operands : Cleared o o'
  pub results : Cleared r r'
  pub marks : Cleared g g'
  pub words : Cleared w w'
  pub base : Cleared b b'
  pub bases : Cleared z z'
  pub set0 : Cleared s0 s0'
  pub set1 : Cleared s1 s1'
  pub set2 : Cleared s2 s2'
  pub set3 : Cleared s3 s3'
  pub paints : Cleared p p'
