-- The core's verdict on a netlist that questions 10 to 12 admit.
use mathlib.Core.Path.{◌≡◌, sym, ◌∙◌}
use Prim.Native.Nat.{ℕ, ◌≤◌}
use mathlib.Core.List.{List}
use mathlib.Core.Option.{Option}
use lib.ListN.{length}
use borrow.Author.Tests.{le-leb}
use Rattle.netlist.specs.Netlist.{Netlist}
use Rattle.netlist.specs.Outcome.{Outcome, done}
use Rattle.masking.specs.Leak.{Found, leak}
use Rattle.masking.specs.Calls.{max_checked, check_outcome}
use Rattle.questions.specs.Asked.{codes_asked}
use Rattle.questions.proofs.Asking.{asked-passed}

module _ (N : Netlist) (codes ws : List ℕ) (widths : ws ≡ N.inputs) where
  pub outcome-told : {a : Outcome (Option Found)} → done tt ≡ codes_asked ws codes → length codes ≤ max_checked
      → a ≡ done (leak N codes) → a ≡ check_outcome codes N
  outcome-told e l p = let q = asked-passed ws codes (sym e) in p
      ∙ sym (rw (← widths, q.1, q.0, le-leb (length codes) 12 l))
