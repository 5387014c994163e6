-- The bits at a seam: masked again by the codes they were unmasked by, they are what the first puts out and the mask
-- pair.
use Prim.Native.Nat.{ℕ, suc}
use mathlib.Core.Path.{◌≡◌, refl, sym, ap, ap₂, ◌∙◌}
use mathlib.Core.Bool.{Bool}
use mathlib.Core.List.{List, [], ◌∷◌, ◌++◌}
use native.Mathlib.Omega.{arith}
use lib.Dec.{T}
use lib.ListN.{length, drop}
use Rattle.netlist.specs.Lists.{every}
use Rattle.masking.specs.Mask.{is_code, is_public}
use Rattle.masking.specs.Leak.{mask_of, masked, public_only}
use Rattle.masking.specs.Unmask.{unmasked}
use Rattle.netlist.proofs.Tests.{both, pair, on_bool}
use Rattle.masking.proofs.CodeLaws.{on_code}
use Rattle.masking.proofs.MaskedBits.{unmask}
use Rattle.join.specs.Call.{is_secret}

module _ (m0 m1 : Bool) where
  pub length-unmasked : (es : List ℕ) (bits : List Bool) → length bits ≡ length es → length (unmasked m0 m1 es bits)
      ≡ length es
  length-unmasked [] bits l = refl
  length-unmasked (e ∷ es) [] l = absurd (omega arith)
  length-unmasked (e ∷ es) (b ∷ bits) l = ap suc (length-unmasked es bits (omega arith))

  pub masked_again : (es : List ℕ) (bits : List Bool) → length bits ≡ length es
      → masked m0 m1 es (unmasked m0 m1 es bits) ≡ bits ++ (m0 ∷ m1 ∷ [])
  masked_again [] [] l = refl
  masked_again [] (b ∷ bits) l = absurd (omega arith)
  masked_again (e ∷ es) [] l = absurd (omega arith)
  masked_again (e ∷ es) (b ∷ bits) l =
      ap₂ (λ (c : Bool) (x : List Bool). c ∷ x) (unmask b (mask_of m0 m1 e)) (masked_again es bits (omega arith))

  pub mask-pair : (es : List ℕ) (x : List Bool) → drop (length es) (masked m0 m1 es x) ≡ m0 ∷ m1 ∷ []
  mask-pair [] x = refl
  mask-pair (e ∷ es) [] = mask-pair es []
  mask-pair (e ∷ es) (b ∷ x) = mask-pair es x

-- codes 1 to 3 are no public bits
pub codes-secret : (es : List ℕ) → T (every is_code es) → T (every is_secret es)
codes-secret [] t = tt
codes-secret (e ∷ es) t =
    let p = both (is_code e) (every is_code es) t in
    pair (is_secret e) (every is_secret es) (on_code (λ e. T (is_secret e)) tt tt tt e p.0) (codes-secret es p.1)

-- where no bit is public, all settings agree in the public bits
none-public : (es : List ℕ) → T (every is_secret es) → (x : List Bool) → public_only es x ≡ public_only es []
none-public [] t x = refl
none-public (e ∷ es) t [] = refl
none-public (e ∷ es) t (b ∷ x) =
    let p = both (is_secret e) (every is_secret es) t in
    on_bool (is_public e)
    (λ z. absurd (rw z at p.0))
    (λ z. rw (z, none-public es p.1 x) refl)

pub all-agree : (es : List ℕ) → T (every is_secret es) → (x y : List Bool) → public_only es x ≡ public_only es y
all-agree es t x y = none-public es t x ∙ sym (none-public es t y)
