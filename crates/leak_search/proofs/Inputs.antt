-- The input wires under the mask setting and the input setting of a number, bit by bit.
use mathlib.Core.Path.{◌≡◌, refl, sym, ap, ap₂, ◌∙◌}
use mathlib.Core.Bool.{Bool, true, false}
use mathlib.Core.List.{List, [], ◌∷◌}
use Prim.Native.Nat.{ℕ, zero, suc, ◌+◌, ◌/◌, ◌<◌}
use native.Mathlib.Nat.{le_of_suc-le-suc, not-suc-le-zero}
use native.Mathlib.Numerals.{add-one}
use native.Mathlib.Omega.{arith}
use lib.ListN.{length, get_or}
use Rattle.netlist.specs.Eval.{differs}
use Rattle.masking.specs.Leak.{mask_of, masked}
use Rattle.masking.proofs.Settings.{public_only-at}
use Rattle.evaluate.specs.Lane.{lane}
use Rattle.leak_search.specs.Paint.{code_of, colour_of, codes_of, shade, paint}
use Rattle.leak_search.specs.Base.{kept, part}
use Rattle.leak_search.specs.Block.{inputs_at}
use Rattle.leak_search.proofs.Paints.{length-codes_of, codes_of-at, paint-at}

part_at : (secrets : Bool) (ps : List ℕ) (s i : ℕ) → i < length ps
    → get_or (part secrets (codes_of ps) (paint ps s)) i false ≡ kept secrets (code_of (get_or ps i 0))
    (shade (colour_of (get_or ps i 0)) s)
part_at true ps s i l = paint-at ps s i l
part_at false ps s i l =
    public_only-at (codes_of ps) (paint ps s) i (rw length-codes_of l)
    ∙ ap₂ (kept false) (codes_of-at ps i l) (paint-at ps s i l)

module _ (m0 m1 : Bool) where
  pub masked-long : (es : List ℕ) (x : List Bool) → length (masked m0 m1 es x) ≡ length es + 2
  masked-long [] x = refl
  masked-long (e ∷ es) [] = let p = masked-long es [] in omega arith
  masked-long (e ∷ es) (b ∷ x) = let p = masked-long es x in omega arith

  pub masked-at : (es : List ℕ) (x : List Bool) (i : ℕ) → i < length es
      → get_or (masked m0 m1 es x) i false ≡ differs (get_or x i false) (mask_of m0 m1 (get_or es i 0))
  masked-at [] x i l = absurd (not-suc-le-zero l)
  masked-at (e ∷ es) [] zero l = refl
  masked-at (e ∷ es) (b ∷ x) zero l = refl
  masked-at (e ∷ es) [] (suc i) l = masked-at es [] i (le_of_suc-le-suc l)
  masked-at (e ∷ es) (b ∷ x) (suc i) l = masked-at es x i (le_of_suc-le-suc l)

  pub masked-m0 : (es : List ℕ) (x : List Bool) → get_or (masked m0 m1 es x) (length es) false ≡ m0
  masked-m0 [] x = refl
  masked-m0 (e ∷ es) [] = masked-m0 es []
  masked-m0 (e ∷ es) (b ∷ x) = masked-m0 es x

  pub masked-m1 : (es : List ℕ) (x : List Bool) → get_or (masked m0 m1 es x) (suc (length es)) false ≡ m1
  masked-m1 [] x = refl
  masked-m1 (e ∷ es) [] = masked-m1 es []
  masked-m1 (e ∷ es) (b ∷ x) = masked-m1 es x

module _ (secrets : Bool) (ps : List ℕ) (n : ℕ) where
  abbrev x : List Bool
  x = part secrets (codes_of ps) (paint ps (n / 4))

  pub inputs_long : length (inputs_at secrets ps n) ≡ length ps + 2
  inputs_long = masked-long (lane 0 n) (lane 1 n) (codes_of ps) x ∙ ap (λ (k : ℕ). k + 2) (length-codes_of ps)

  pub inputs-at : (i : ℕ) → i < length ps
      → get_or (inputs_at secrets ps n) i false
      ≡ differs (kept secrets (code_of (get_or ps i 0)) (shade (colour_of (get_or ps i 0)) (n / 4)))
      (mask_of (lane 0 n) (lane 1 n) (code_of (get_or ps i 0)))
  inputs-at i l =
      masked-at (lane 0 n) (lane 1 n) (codes_of ps) x i (rw length-codes_of l)
      ∙ ap₂ (λ (b : Bool) (e : ℕ). differs b (mask_of (lane 0 n) (lane 1 n) e)) (part_at secrets ps (n / 4) i l)
      (codes_of-at ps i l)

  pub inputs-m0 : get_or (inputs_at secrets ps n) (length ps) false ≡ lane 0 n
  inputs-m0 =
      ap (λ (k : ℕ). get_or (inputs_at secrets ps n) k false) (sym (length-codes_of ps))
      ∙ masked-m0 (lane 0 n) (lane 1 n) (codes_of ps) x

  pub inputs-m1 : get_or (inputs_at secrets ps n) (length ps + 1) false ≡ lane 1 n
  inputs-m1 =
      ap (λ (k : ℕ). get_or (inputs_at secrets ps n) k false) (add-one (length ps) ∙ ap suc (sym (length-codes_of ps)))
      ∙ masked-m1 (lane 0 n) (lane 1 n) (codes_of ps) x
