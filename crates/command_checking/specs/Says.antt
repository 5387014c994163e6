-- What a judgement says of a text under input codes.
use Rattle.std.specs.Prelude.{ℕ, ◌<◌, ◌≡◌, Result, Ok, Err, Option, List}
use Rattle.netlist.specs.declared.Refusal.{Refusal}
use Rattle.netlist.specs.declared.Sizes.{Sizes}
use Rattle.netlist.specs.Netlist.{Netlist, masked_limits}
use Rattle.netlist.specs.Outcome.{done}
use Rattle.netlist.specs.Read.{read_netlist}
use Rattle.masking.specs.Leak.{EqualCounts}
use Rattle.masking.specs.Leak as equal
use Rattle.leak_search.specs.declared.difference.Leak as difference
use Rattle.check_pairs.specs.declared.search.PairsFound.{PairsFound}
use Rattle.check_wide.specs.Told.{WideFound}
use Rattle.checker.specs.Verdict as check
use Rattle.check_pairs.specs.Judge as pairs
use Rattle.check_wide.specs.Promise as wide
use Rattle.command_checking.specs.declared.verdict.Verdict.{Verdict}
use Rattle.command_checking.specs.declared.verdict.Verdict.TheVariants.{Clean, Leak, Unknown}

-- the text reads as a netlist, under the limits of one of the sizes, of which a fact holds
pub record Reads (text : List ℕ) (P : Netlist → Type 0) : Type 0 where
  pub sizes : Sizes
  pub netlist : Netlist
  pub read : read_netlist (masked_limits sizes) text ≡ done netlist
  pub holds : P netlist

-- what a verdict says of a netlist: every wire has equal counts; or some wire has not; or this wire is one of it, and each
-- lower wire has equal counts
abbrev pub Follows : List ℕ → Verdict → Netlist → Type 0
Follows codes Clean N = equal.Clean N codes
Follows codes (Leak found) N = equal.Clean N codes → ⊥
Follows codes (Unknown wire) N = (wire < N.wires) × ((w : ℕ) → w < wire → EqualCounts N codes w)

-- what a verdict says of a text
abbrev pub Says : List ℕ → List ℕ → Verdict → Type 0
Says text codes v = Reads text (Follows codes v)

-- what an answer of Check says of a text
abbrev pub CheckSays : List ℕ → List ℕ → Option (difference.Leak ℕ) → Type 0
CheckSays text codes f = Reads text (λ N. check.Judged N codes (Ok f))

-- what an answer of Check with pairs says of a text
abbrev pub PairsSay : List ℕ → List ℕ → List ℕ → PairsFound ℕ → Type 0
PairsSay text codes ws f = Reads text (λ N. pairs.Judged N codes ws (Ok f))

-- what an answer of the check of many inputs says of a text
abbrev pub WideSays : List ℕ → List ℕ → List ℕ → WideFound → Type 0
WideSays text codes ws f = Reads text (λ N. wide.Judged N codes ws (Ok f))
