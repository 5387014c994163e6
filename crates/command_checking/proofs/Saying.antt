-- From the services' promises to what is said of a text.
use Prim.Native.Nat.{ℕ, ◌<◌}
use Rattle.std.specs.Prelude as std
use Rattle.std.specs.Prelude.{Result, Ok, Err, IfOk}
use mathlib.Core.Path.{◌≡◌, sym, ap, ◌∙◌}
use mathlib.Core.List.{List, [], ◌∷◌}
use lib.ListN.{length}
use Rattle.netlist.specs.declared.Refusal.{Refusal}
use Rattle.netlist.specs.declared.Sizes.{Sizes}
use Rattle.netlist.specs.Netlist.{Netlist, masked_limits}
use Rattle.netlist.specs.Outcome.{Outcome, done, ask, and_then}
use Rattle.netlist.specs.Read.{read_netlist}
use Rattle.netlist.specs.Services.{tables_long}
use Rattle.netlist.proofs.Questions.{ask-done, and_then-done}
use Rattle.masking.specs.Calls.{check_outcome, check_call}
use Rattle.leak_search.specs.declared.difference.Leak.{Leak}
use Rattle.leak_search.specs.Search.{found_of}
use Rattle.checker.specs.Verdict as exact
use Rattle.checker.specs.Promise as check
use Rattle.check_pairs.specs.declared.search.PairsFound.{PairsFound}
use Rattle.check_pairs.specs.Call.{pairs_call, pairs_outcome}
use Rattle.check_pairs.specs.Judge as two
use Rattle.check_pairs.specs.Promise as pairs
use Rattle.check_wide.specs.Wide.{wide_call, wide_outcome}
use Rattle.check_wide.specs.Told.{WideFound}
use Rattle.check_wide.specs.Verdict as many
use Rattle.check_wide.specs.Promise as wide
use Rattle.command_checking.specs.Says.{CheckSays, PairsSay, WideSays}

-- a netlist was read where all questions after it got a yes
pub read-of : {A : Type 0} (s : Sizes) (text tables : List ℕ) (f : Netlist → Outcome A) (x : A)
    → ask 1 (tables_long (masked_limits s) tables) (and_then (read_netlist (masked_limits s) text) f) ≡ done x
    → (N : Netlist) × (read_netlist (masked_limits s) text ≡ done N)
read-of s text tables f x e =
    let one = (ask-done 1 (tables_long (masked_limits s) tables) _ x e).1 in
    let two = and_then-done (read_netlist (masked_limits s) text) f x one in
    (two.0, two.1)

module _ {s : Sizes} {text codes o o' r r' g g' w w' b b' : List ℕ} where
  pub check-says : (f : std.Option (Leak ℕ)) → check.Promise s text codes o o' r r' g g' w w' b b' (Ok f) → CheckSays text codes f
  unfolding check_call
  check-says f P =
      let k = read-of s text (length o ∷ length r ∷ length g ∷ length w ∷ length b ∷ []) (check_outcome codes) (found_of f) (sym P.outcome) in
      record { sizes = s; netlist = k.0; read = k.1; holds = P.judged k.0 k.1 }

  pub check_answers : (a : Result (std.Option (Leak ℕ)) Refusal) → check.Promise s text codes o o' r r' g g' w w' b b' a
      → IfOk a (CheckSays text codes)
  check_answers (Ok f) P = check-says f P
  check_answers (Err q) P = tt

  module _ {ws z z' : List ℕ} where
    pub pairs-say : (f : PairsFound ℕ) → pairs.Promise s text codes ws o o' r r' g g' w w' b b' z z' (Ok f)
        → PairsSay text codes ws f
    unfolding pairs_call
    pairs-say f P =
        let k = read-of s text (length o ∷ length r ∷ length g ∷ length w ∷ length b ∷ length z ∷ []) (pairs_outcome codes ws) (two.both_of f) (sym P.outcome) in
        record { sizes = s; netlist = k.0; read = k.1; holds = P.judged k.0 k.1 }

    pub pairs_answer : (a : Result (PairsFound ℕ) Refusal)
        → pairs.Promise s text codes ws o o' r r' g g' w w' b b' z z' a → IfOk a (PairsSay text codes ws)
    pairs_answer (Ok f) P = pairs-say f P
    pairs_answer (Err q) P = tt

    module _ {a a' c c' d d' e e' p p' : List ℕ} where
      pub wide-says : (f : WideFound)
          → wide.Promise s text codes ws o o' r r' g g' w w' b b' z z' a a' c c' d d' e e' p p' (Ok f)
          → WideSays text codes ws f
      unfolding wide_call
      wide-says f P =
          let tables : List ℕ = length o ∷ length r ∷ length g ∷ length w ∷ length b ∷ length z ∷ length a ∷ length c
          ∷ length d ∷ length e ∷ length p ∷ [] in
          let k = read-of s text tables (wide_outcome codes ws) (many.both_of f) (sym P.outcome) in
          record { sizes = s; netlist = k.0; read = k.1; holds = P.judged k.0 k.1 }

      pub wide_answers : (f : Result WideFound Refusal)
          → wide.Promise s text codes ws o o' r r' g g' w w' b b' z z' a a' c c' d d' e e' p p' f
          → IfOk f (WideSays text codes ws)
      wide_answers (Ok f) P = wide-says f P
      wide_answers (Err q) P = tt
