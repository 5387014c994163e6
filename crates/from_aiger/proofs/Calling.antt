-- From a file that was read to the promise.
use Rattle.std.specs.Prelude.{Ok, Result}
use Prim.Native.Nat.{ℕ}
use mathlib.Core.Path.{◌≡◌, refl, sym, ap, ◌∙◌, subst}
use mathlib.Core.Bool.{Bool, true, false}
use mathlib.Core.List.{List, [], ◌∷◌}
use lib.ListN.{length, take}
use Rattle.netlist.specs.declared.Limits.{Limits}
use Rattle.netlist.specs.declared.Sizes.{Sizes}
use Rattle.netlist.specs.declared.Refusal.{Refusal}
use Rattle.netlist.specs.Netlist.{source_limits}
use Rattle.netlist.specs.Outcome.{refused, ask, and_then}
use Rattle.netlist.specs.Services.{tables_long, rewrite_outcome, outcome_of, Answers}
use Rattle.netlist.proofs.Answering.{answers-as}
use Rattle.netlist.proofs.Size.{roomy-small}
use Rattle.aiger.specs.Call.{read_aiger, aiger_call}
use Rattle.aiger.specs.Delivered.{Delivered}
use Rattle.aiger.proofs.Reading.{aiger-delivered}
use Rattle.from_aiger.specs.WholeAnswers.{asked_aiger}
use Rattle.from_aiger.specs.Promise.{call}

-- a refusal of the reader, which was handed the limits of the sizes
pub asked-not : {l L : Limits} (lengths t : List ℕ) {q : ℕ} → l ≡ L → asked_aiger l lengths t ≡ refused q
    → asked_aiger L lengths t ≡ refused q
asked-not lengths t {q} is e = subst (λ (k : Limits). asked_aiger k lengths t ≡ refused q) is e

-- the call
module _ (s : Sizes) (text out o r v : List ℕ) where
  abbrev lengths : List ℕ
  lengths = length o ∷ length r ∷ length v ∷ []

  asked : and_then (asked_aiger (source_limits s) lengths text) (rewrite_outcome (length out)) ≡ call s text out o r v
  unfolding aiger_call
  asked = go (tables_long (source_limits s) lengths)
    where
      go : (b : Bool) → and_then (ask 1 b (read_aiger (source_limits s) text)) (rewrite_outcome (length out)) ≡ ask 1 b
          (and_then (read_aiger (source_limits s) text) (rewrite_outcome (length out)))
      go true = refl
      go false = refl

  pub call-read : {x : List ℕ} {a : Result ℕ Refusal} → Answers
      (and_then (asked_aiger (source_limits s) lengths text) (rewrite_outcome (length out))) out x a
      → Answers (call s text out o r v) out x a
  call-read h = answers-as asked h

  -- the result
  pub call-delivered : {x : List ℕ} {a : Result ℕ Refusal} → Answers (call s text out o r v) out x a → (n : ℕ) → a
      ≡ Ok n → Delivered (source_limits s) text (take n x)
  call-delivered {x} {a} w n p =
      aiger-delivered (roomy-small s) lengths text (length out) (take n x) (sym w.outcome ∙ ap (outcome_of x) p)
