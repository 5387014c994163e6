-- What an answer of Check with pairs says.
use Rattle.std.specs.Prelude.{ℕ, Result, Ok, Err, Option, Some, None, List}
use Rattle.netlist.specs.declared.Refusal.{Refusal}
use Rattle.netlist.specs.Netlist.{Netlist}
use Rattle.netlist.specs.Outcome.{Outcome}
use Rattle.netlist.specs.Services.{stands_for}
use Rattle.masking.specs.Leak.{Found, LowestLeak, Clean}
use Rattle.leak_search.specs.declared.difference.Leak.{Leak}
use Rattle.leak_search.specs.Search.{found, found_of}
use Rattle.check_pairs.specs.Pairs.{PairsJudged}
use Rattle.check_pairs.specs.Call.{BothAnswers}
use Rattle.check_pairs.specs.declared.search.PairsFound.{PairsFound}
use Rattle.check_pairs.specs.Search.{bad_of}

-- both answers
abbrev pub both_of : PairsFound ℕ → BothAnswers Found
both_of f = record { leak = found_of f.leak; pairs = bad_of f.pair }

-- the outcome that an answer stands for
abbrev pub outcome_of : Result (PairsFound ℕ) Refusal → Outcome (BothAnswers Found)
outcome_of a = stands_for both_of a

-- the equal-count rule, as the one-wire answer has it: clean, so every wire meets the rule; or the lowest leak, so one
-- does not
abbrev pub WiresJudged : Netlist → List ℕ → Option (Leak ℕ) → Type 0
WiresJudged N codes None = Clean N codes
WiresJudged N codes (Some p) = LowestLeak N codes (found p) × (Clean N codes → ⊥)

-- both answers of a netlist under input codes and a list of pairs: the one on wires, and clean exactly where every
-- listed pair meets the rule, otherwise the first that does not; a refusal says nothing
abbrev pub Judged : Netlist → List ℕ → List ℕ → Result (PairsFound ℕ) Refusal → Type 0
Judged N codes ws (Ok f) = WiresJudged N codes f.leak × PairsJudged N codes ws (bad_of f.pair)
Judged N codes ws (Err q) = Unit
