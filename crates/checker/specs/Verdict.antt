-- What an answer of Check's says.
use Rattle.std.specs.Prelude.{ℕ, Result, Ok, Err, Option, Some, None, List}
use Rattle.std.proofs.Math.Option as Math
use Rattle.netlist.specs.declared.Refusal.{Refusal}
use Rattle.netlist.specs.Netlist.{Netlist}
use Rattle.netlist.specs.Outcome.{Outcome}
use Rattle.netlist.specs.Services.{stands_for}
use Rattle.masking.specs.Leak.{Found, LowestLeak, Clean}
use Rattle.leak_search.specs.declared.difference.Leak.{Leak}
use Rattle.leak_search.specs.Search.{found, found_of}

-- the outcome that an answer stands for
abbrev pub outcome_of : Result (Option (Leak ℕ)) Refusal → Outcome (Math.Option Found)
outcome_of a = stands_for found_of a

-- the equal-count rule, as an answer has it of a netlist under input codes: clean, so every wire meets the rule; or the
-- lowest leak, so one does not; a refusal says nothing
abbrev pub Judged : Netlist → List ℕ → Result (Option (Leak ℕ)) Refusal → Type 0
Judged N codes (Ok None) = Clean N codes
Judged N codes (Ok (Some p)) = LowestLeak N codes (found p) × (Clean N codes → ⊥)
Judged N codes (Err q) = Unit
