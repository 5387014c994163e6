-- The outcome of a call of Check with a list of pairs (docs/RULES.md, Pairs).
use Rattle.std.specs.Prelude.{ℕ, ◌%◌, Bool, ◌&&◌, List, eqb, ltb, length}
use Rattle.std.proofs.Math.Option.{Option}
use Rattle.netlist.specs.declared.Limits.{Limits}
use Rattle.netlist.specs.Lists.{every}
use Rattle.netlist.specs.Netlist.{Netlist}
use Rattle.netlist.specs.Outcome.{Outcome, done, ask, and_then}
use Rattle.netlist.specs.Read.{read_netlist}
use Rattle.masking.specs.Leak.{Found}
use Rattle.netlist.specs.Services.{tables_long}
use Rattle.masking.specs.Calls.{check_outcome}
use Rattle.check_pairs.specs.Pairs.{clean_pair, first_bad}

-- both answers: the leak on one wire, if there is one, and how many pairs stand before the first bad one, if there is
-- one
pub record BothAnswers (A : Type 0) : Type 0 where
  pub leak : Option A
  pub pairs : Option ℕ

-- question 21: an even number of entries, each a wire below W
abbrev pub pairs_good : ℕ → List ℕ → Bool
pairs_good W ws = eqb (length ws % 2) 0 && every (λ w. ltb w W) ws

-- question 21 of a netlist, and the pairs' answer beside the one-wire answer
abbrev pub with_pairs : List ℕ → List ℕ → Netlist → Option Found → Outcome (BothAnswers Found)
with_pairs codes ws N leak = ask 21 (pairs_good N.wires ws)
    (done (record { leak = leak; pairs = first_bad (clean_pair N codes) ws }))

-- questions 10 to 12 of a netlist and the one-wire answer, which are Check's own, then 21 and the pairs' answer
abbrev pub pairs_outcome : List ℕ → List ℕ → Netlist → Outcome (BothAnswers Found)
pairs_outcome codes ws N = and_then (check_outcome codes N) (with_pairs codes ws N)

-- questions 1 to 12, and 21
unfoldable pub pairs_call : Limits → List ℕ → List ℕ → List ℕ → List ℕ → Outcome (BothAnswers Found)
pairs_call L tables text codes ws = ask 1 (tables_long L tables)
    (and_then (read_netlist L text) (pairs_outcome codes ws))
