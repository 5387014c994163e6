-- Questions 10 to 12 and 21 of a netlist, and the core's verdicts on it.
use Prim.Native.Nat.{ℕ, ◌%◌, ◌≤◌, ◌<◌}
use mathlib.Core.Path.{◌≡◌, refl, sym, ap₂, ◌∙◌}
use mathlib.Core.Bool.{Bool, true}
use mathlib.Core.List.{List}
use mathlib.Core.Option.{Option}
use lib.Dec.{eqb, ltb, ltb→lt}
use lib.ListN.{length, get_or}
use borrow.Author.Tests.{eq-eqb}
use Rattle.netlist.specs.Lists.{every}
use Rattle.netlist.specs.Netlist.{Netlist}
use Rattle.netlist.specs.Outcome.{Outcome, done}
use Rattle.masking.specs.Leak.{Found, leak}
use Rattle.masking.specs.Calls.{max_checked, check_outcome}
use Rattle.netlist.proofs.Tests.{both, true-T, every-at}
use Rattle.leak_search.specs.Search.{found_of}
use Rattle.questions.specs.Asked.{codes_asked}
use Rattle.checker.proofs.Judging.{outcome-told}
use Rattle.check_pairs.specs.Pairs.{clean_pair, first_bad}
use Rattle.check_pairs.specs.Call.{BothAnswers, pairs_good, pairs_outcome}
use Rattle.check_pairs.proofs.PairCalls.{pairs-told}
use Rattle.check_pairs.specs.declared.search.PairsFound.{PairsFound}
use Rattle.check_pairs.specs.Search.{bad_of}
use Rattle.check_pairs.specs.Judge.{both_of}

-- ---- question 21

pub good-even : (W : ℕ) (ws : List ℕ) {r : Bool} → length ws % 2 ≡ 0 → r ≡ every (λ w. ltb w W) ws → r ≡ pairs_good W ws
good-even W ws h e = e ∙ sym (rw (eq-eqb (length ws % 2) 0 h))

pub good-below : (W : ℕ) (ws : List ℕ) → pairs_good W ws ≡ true → (i : ℕ) → i < length ws → get_or ws i 0 < W
good-below W ws e i l =
    ltb→lt (get_or ws i 0) W
    (every-at (λ w. ltb w W) ws (both (eqb (length ws % 2) 0) (every (λ w. ltb w W) ws) (true-T (pairs_good W ws) e)).1
    i l)

-- ---- the core's answers

abbrev answers_of : Netlist → List ℕ → List ℕ → BothAnswers Found
answers_of N codes ws = record { leak = leak N codes; pairs = first_bad (clean_pair N codes) ws }

pub told : (N : Netlist) (codes ws : List ℕ) (f : PairsFound ℕ) → (found_of f.leak ≡ leak N codes)
    × (bad_of f.pair ≡ first_bad (clean_pair N codes) ws)
    → ◌≡◌ {A = Outcome (BothAnswers Found)} (done (both_of f)) (done (answers_of N codes ws))
told N codes ws f g = ap₂ (λ (l : Option Found) (b : Option ℕ). done (record { leak = l; pairs = b })) g.0 g.1

-- ---- the questions in order

module _ (N : Netlist) (codes ws vs : List ℕ) (widths : vs ≡ N.inputs) where
  module _ (asked : done tt ≡ codes_asked vs codes) (few : length codes ≤ max_checked) where
    checked : done (leak N codes) ≡ check_outcome codes N
    checked = outcome-told N codes vs widths asked few refl

    pub answered : {W : ℕ} {a : Outcome (BothAnswers Found)} → N.wires ≡ W → pairs_good W ws ≡ true → a
        ≡ done (answers_of N codes ws)
        → a ≡ pairs_outcome codes ws N
    answered e b p = p ∙ pairs-told codes ws N checked (rw e b) refl
