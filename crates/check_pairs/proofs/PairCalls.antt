-- The questions of a call with pairs.
use Prim.Native.Nat.{ℕ}
use mathlib.Core.Path.{◌≡◌, sym, ap, ◌∙◌}
use mathlib.Core.Bool.{Bool, true}
use mathlib.Core.List.{List}
use mathlib.Core.Option.{Option}
use Rattle.netlist.specs.Netlist.{Netlist}
use Rattle.netlist.specs.Outcome.{Outcome, done, ask, and_then}
use Rattle.masking.specs.Leak.{Found}
use Rattle.masking.specs.Calls.{check_outcome}
use Rattle.netlist.proofs.Questions.{done-same, ask-done, and_then-done}
use Rattle.check_pairs.specs.Pairs.{clean_pair, first_bad}
use Rattle.check_pairs.specs.Call.{BothAnswers, pairs_good, with_pairs, pairs_outcome}

module _ (codes ws : List ℕ) (N : Netlist) where
  -- both answers come
  pub pairs-told : {f : Option Found} {k : Option ℕ} → done f ≡ check_outcome codes N → pairs_good N.wires ws ≡ true → k
      ≡ first_bad (clean_pair N codes) ws
      → done (record { leak = f; pairs = k }) ≡ pairs_outcome codes ws N
  pairs-told {f} {k} e b p = ap (λ (o : Option ℕ). done (record { leak = f; pairs = o })) p
      ∙ sym (ap (λ (g : Bool). ask 21 g (done (record { leak = f; pairs = first_bad (clean_pair N codes) ws }))) b)
      ∙ ap (λ (o : Outcome (Option Found)). and_then o (with_pairs codes ws N)) e

  -- a finished call taken apart: the one-wire answer is Check's, and the pairs' answer is the search's
  pub pairs-done : (a : BothAnswers Found) → pairs_outcome codes ws N ≡ done a
      → (check_outcome codes N ≡ done a.leak) × (first_bad (clean_pair N codes) ws ≡ a.pairs)
  pairs-done a e =
      let r = and_then-done (check_outcome codes N) (with_pairs codes ws N) a e in
      let f = r.0 in
      let d = done-same _ a (ask-done 21 (pairs_good N.wires ws)
      (done (record { leak = f; pairs = first_bad (clean_pair N codes) ws })) a r.2).1 in
      (r.1 ∙ ap (λ (b : BothAnswers Found). done b.leak) d, ap (λ (b : BothAnswers Found). b.pairs) d)
