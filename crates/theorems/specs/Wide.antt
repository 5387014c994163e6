-- What is said of Check of many inputs and Check with pairs where both answer (docs/RULES.md, Many inputs).
use Rattle.std.specs.Prelude.{ℕ, ◌≤◌, List, ◌≡◌, length}
use Rattle.netlist.specs.declared.Limits.{Limits}
use Rattle.netlist.specs.Outcome.{done, and_then}
use Rattle.netlist.specs.Services.{tables_long}
use Rattle.masking.specs.Leak.{Found}
use Rattle.masking.specs.Calls.{max_checked}
use Rattle.check_pairs.specs.Call.{BothAnswers, pairs_call}
use Rattle.check_wide.specs.Wide.{WideLeak, listed, wide_call}

-- the answers of Check with pairs, with the leak's setting, of n input bits, told by the input bits that are 1 in it
abbrev pub both_listed : ℕ → BothAnswers Found → BothAnswers WideLeak
both_listed n B = record { leak = listed n B.leak; pairs = B.pairs }

-- of at most twelve codes the two calls have one outcome: the same question, or the same answers
abbrev pub WideAgrees : Type 0
WideAgrees =
    (L : Limits) (wide_tables pair_tables text codes pairs : List ℕ) → length codes ≤ max_checked
    → tables_long L wide_tables ≡ tables_long L pair_tables
    → wide_call L wide_tables text codes pairs
    ≡ and_then (pairs_call L pair_tables text codes pairs) λ B. done (both_listed (length codes) B)
