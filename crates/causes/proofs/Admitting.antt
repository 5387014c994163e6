-- Questions 10 to 12, and what they are for.
use Prim.Native.Nat.{ℕ, ◌-◌, ◌≤◌, ◌<◌}
use mathlib.Core.Path.{◌≡◌, refl, sym}
use mathlib.Core.Bool.{Bool, true, false}
use mathlib.Core.List.{List}
use lib.ListN.{length}
use borrow.Author.Tests.{le-leb, lt-leb}
use Rattle.netlist.specs.Netlist.{Netlist}
use Rattle.netlist.specs.Lists.{sum}
use Rattle.netlist.specs.Outcome.{Outcome, refused, done, ask}
use Rattle.netlist.specs.Services.{list_good}
use Rattle.netlist.proofs.Tests.{clash}
use Rattle.masking.specs.Mask.{is_input_code}
use Rattle.masking.specs.Calls.{ends_in_masks}
use Rattle.questions.specs.Asked.{codes_asked}
use Rattle.questions.proofs.Asking.{asked-passed}
use Rattle.causes.specs.Promise.{explained}

-- both questions, by their tests
abbrev both_asked : Bool → Bool → Outcome Unit
both_asked a b = ask 10 a (ask 11 b (done tt))

module _ (N : Netlist) (codes ws : List ℕ) (widths : ws ≡ N.inputs) where
  pub refused-asked : {q : ℕ} → refused q ≡ codes_asked ws codes → (rest : Outcome (List ℕ))
      → explained rest codes N ≡ refused q
  refused-asked {q} e rest = rw (← widths) (go (ends_in_masks ws) (list_good is_input_code (sum ws - 2) codes) _ e)
    where
      go : (a b : Bool) (r : Outcome (List ℕ)) → refused q ≡ both_asked a b → ask 10 a (ask 11 b r)
          ≡ refused q
      go true true r e = clash (cc)
      go true false r e = cc
      go false b r e = cc

  pub refused-many : done tt ≡ codes_asked ws codes → 12 < length codes → (rest : Outcome (List ℕ))
      → explained rest codes N ≡ refused 12
  refused-many e l rest =
      let q = asked-passed ws codes (sym e) in
      rw (← widths, q.1, q.0, lt-leb (length codes) 12 l) refl

  pub asked-goes-on : done tt ≡ codes_asked ws codes → length codes ≤ 12 → (rest : Outcome (List ℕ))
      → explained rest codes N ≡ rest
  asked-goes-on e l rest =
      let q = asked-passed ws codes (sym e) in
      rw (← widths, q.1, q.0, le-leb (length codes) 12 l) refl
