-- The twins of the inputs carry the input bits: a public bit's after its gate, any other where it arrives.
use Prim.Native.Nat.{ℕ, zero, suc, ◌+◌, ◌<◌}
use mathlib.Core.Path.{◌≡◌, refl, ◌∙◌}
use mathlib.Core.Bool.{Bool}
use mathlib.Core.List.{List, [], ◌∷◌}
use native.Mathlib.Omega.{arith}
use borrow.Author.Tests.{eqb-true}
use lib.ListN.{length, get_or}
use Rattle.netlist.specs.declared.Gate.TheVariants.{Xor}
use Rattle.netlist.specs.declared.Twin.{Twin}
use Rattle.masking.specs.Mask.{is_public, no_twin, input_twins, past_public, public_gate, public_gates}
use Rattle.netlist.proofs.Tests.{on_bool, empty, each, all_head, all_append}
use Rattle.masking.proofs.MaskedBits.{differs_false}
use Rattle.netlist.proofs.Order.{AllWires}
use Rattle.masking.proofs.Carries.{Family, Satisfies, Balanced, Carries, Masks, satisfies-split, carries-balanced}

-- input w arrives at wire k + w, under its code of the input list
abbrev pub arrives : ℕ → List ℕ → ℕ → Twin
arrives k es w = record { wire = k + w; code = get_or es w 0 }

-- the twins of the inputs from k on carry the bits s, all wires of the gates balanced
pub record Inputs {X : Type 0} (U : Family X) (n c k : ℕ) (es : List ℕ) (s : ℕ → X → Bool) : Type 0 where
  pub carries : (w : ℕ) → w < length es → Carries U (get_or (input_twins c k es) w no_twin) (s w)
  pub even : AllWires (Balanced U) (public_gates n c k es)

module _ {X : Type 0} {U : Family X} {n : ℕ} (K : Masks U n) where
  pub walk-inputs : (c k : ℕ) (es : List ℕ) (s : ℕ → X → Bool)
      → ((w : ℕ) → w < length es → Carries U (arrives k es w) (s w))
      → Satisfies U (public_gates n c k es) → Inputs U n c k es s
  walk-inputs c k [] s h m = record { carries = λ w b. absurd (omega arith); even = empty }
  walk-inputs c k (e ∷ es) s h m =
      let z : k + 0 ≡ k = omega arith in
      let own : Carries U (record { wire = k; code = e }) (s 0) = rw z at (h 0 (omega arith)) in
      let sp = satisfies-split U (public_gate n c k e) m in
      let R = walk-inputs (past_public c e) (k + 1) es (λ w. s (suc w))
      (λ w b. let y : k + suc w ≡ k + 1 + w = omega arith in rw y at (h (suc w) (omega arith))) sp.1 in
      on_bool (is_public e)
      (λ p. let g : Satisfies U (Xor k n c ∷ []) = rw p at sp.0 in
      let q : e ≡ 0 = eqb-true e 0 p in
      let bare : Carries U (record { wire = k; code = 0 }) (s 0) = rw q at own in
      let A : Twin = record { wire = c; code = 1 } in
      let a : Carries U A (s 0) = λ x m0 m1. all_head (g x m0 m1)
      ∙ rw (bare x m0 m1, K.first x m0 m1, differs_false (s 0 x)) refl in
      let b : AllWires (Balanced U) (public_gate n c k e) = rw p (each (carries-balanced U A (s 0) tt a) empty) in
      record { carries = later (rw p a) R.carries; even = all_append b R.even })
      (λ p. let b : AllWires (Balanced U) (public_gate n c k e) = rw p empty in
      record { carries = later (rw p own) R.carries; even = all_append b R.even })
    where
      later : Carries U (get_or (input_twins c k (e ∷ es)) 0 no_twin) (s 0)
          → ((w : ℕ) → w < length es → Carries U (get_or (input_twins (past_public c e) (k + 1) es) w no_twin)
          (s (suc w)))
          → (w : ℕ) → w < suc (length es) → Carries U (get_or (input_twins c k (e ∷ es)) w no_twin) (s w)
      later a r zero b = a
      later a r (suc w) b = r w (omega arith)
