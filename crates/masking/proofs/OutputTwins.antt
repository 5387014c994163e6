-- The gates of the output bits: each carries its source bit under the code that it ends with.
use Prim.Native.Nat.{ℕ, zero, suc, ◌+◌, ◌<◌}
use mathlib.Core.Path.{◌≡◌, refl, ◌∙◌}
use mathlib.Core.Bool.{Bool}
use mathlib.Core.List.{List, [], ◌∷◌}
use native.Mathlib.Omega.{arith}
use lib.Dec.{T, eqb}
use borrow.Author.Tests.{eqb-true}
use lib.ListN.{length, get_or}
use Rattle.netlist.specs.declared.Twin.{Twin}
use Rattle.netlist.specs.Lists.{every}
use Rattle.netlist.specs.Netlist.{result}
use Rattle.netlist.specs.Eval.{made}
use Rattle.masking.specs.Mask.{is_wanted, third, no_twin, out_gate, out_code, out_gates, out_codes}
use Rattle.netlist.proofs.Tests.{both, on_bool, All, empty, each, all_head, all_tail}
use Rattle.masking.proofs.CodeLaws.{wanted-code, third-code}
use Rattle.masking.proofs.MaskedBits.{wanted-law}
use Rattle.netlist.proofs.Order.{AllWires}
use Rattle.masking.proofs.Placed.{Placed}
use Rattle.masking.proofs.OutputGates.{wanted-other, out_code-good}
use Rattle.masking.proofs.Carries.{Family, Satisfies, Balanced, Carries, Masks, carries-balanced, mask-wire}

-- the twin that an output's gate at wire c gives
abbrev out_twin : ℕ → Twin → ℕ → Twin
out_twin c t want = record { wire = c; code = out_code t.code want }

out-result : (n c : ℕ) (t : Twin) (want : ℕ) → c ≡ result (out_gate n c t want)
out-result n c t want = on_bool (eqb want 0) (λ z. rw z refl)
    (λ z. on_bool (eqb want t.code) (λ y. rw (z, y) refl) (λ y. rw (z, y) refl))

-- the output bits s at the wires from c on, all of the wires balanced
pub record Outs {X : Type 0} (U : Family X) (n c : ℕ) (ts : List Twin) (ws : List ℕ) (s : ℕ → X → Bool) : Type 0 where
  pub carries : (i : ℕ) → i < length ts → Carries U (record { wire = c + i; code = get_or (out_codes ts ws) i 0 }) (s i)
  pub even : AllWires (Balanced U) (out_gates n c ts ws)

module _ {X : Type 0} {U : Family X} {n : ℕ} (K : Masks U n) where
  out-carries : {k : ℕ} (c : ℕ) (t : Twin) (want : ℕ) (s : X → Bool) → Placed k t → T (is_wanted want) → Carries U t s
      → ((x : X) (m0 m1 : Bool) → U x m0 m1 (result (out_gate n c t want)) ≡ made (U x m0 m1) (out_gate n c t want))
      → Carries U (out_twin c t want) s
  out-carries c t want s P q h m x m0 m1 =
      on_bool (eqb want 0)
      (λ z. let g = rw z at (m x m0 m1) in rw z (g ∙ h x m0 m1))
      (λ z. on_bool (eqb want t.code)
      (λ y. let g = rw (z, y) at (m x m0 m1) in rw (z, eqb-true want t.code y) (g ∙ h x m0 m1))
      (λ y. let g = rw (z, y) at (m x m0 m1) in
      let d = wanted-code want q z in
      let o = wanted-other t.code want y in
      rw z
      (g
      ∙ rw (h x m0 m1, mask-wire K (third t.code want) (third-code t.code want P.code d o) x m0 m1)
      (wanted-law t.code want P.code d o (s x) m0 m1))))

  pub walk-outs : {k : ℕ} (c : ℕ) (ts : List Twin) (ws : List ℕ) (s : ℕ → X → Bool) → length ws ≡ length ts
      → T (every is_wanted ws)
      → All (Placed k) ts
      → ((i : ℕ) → i < length ts → Carries U (get_or ts i no_twin) (s i)) → Satisfies U (out_gates n c ts ws)
      → Outs U n c ts ws s
  walk-outs c [] ws s l t P h m = record { carries = λ i b. absurd (omega arith); even = empty }
  walk-outs c (a ∷ ts) [] s l t P h m = absurd (omega arith)
  walk-outs c (a ∷ ts) (w ∷ ws) s l t P h m =
      let q = both (is_wanted w) (every is_wanted ws) t in
      let p = all_head P in
      let g = out-carries c a w (s 0) p q.0 (h 0 (omega arith)) (λ x m0 m1. all_head (m x m0 m1)) in
      let R = walk-outs (c + 1) ts ws (λ i. s (suc i)) (omega arith) q.1 (all_tail P) (λ i b. h (suc i) (omega arith))
      (λ x m0 m1. all_tail (m x m0 m1)) in
      record {
        carries = later g R.carries;
        even = each (rw (out-result n c a w) at (carries-balanced U (out_twin c a w) (s 0)
            (out_code-good a.code w p.code q.0) g)) R.even;
      }
    where
      later : Carries U (out_twin c a w) (s 0)
          → ((i : ℕ) → i < length ts → Carries U (record { wire = c + 1 + i; code = get_or (out_codes ts ws) i 0 })
          (s (suc i)))
          → (i : ℕ) → i < suc (length ts)
          → Carries U (record { wire = c + i; code = get_or (out_codes (a ∷ ts) (w ∷ ws)) i 0 }) (s i)
      later g r zero b = let z : c + 0 ≡ c = omega arith in rw z g
      later g r (suc i) b = let z : c + suc i ≡ c + 1 + i = omega arith in rw z (r i (omega arith))
