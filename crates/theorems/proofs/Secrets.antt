-- Where no bit is public: equal counts are owed to all settings, and each is compared with setting 0 (docs/RULES.md,
-- Leaks).
use Prim.Native.Nat.{ℕ, suc, ◌^◌, ◌<◌}
use mathlib.Core.Path.{◌≡◌, refl, sym, ap, ap₂, ◌∙◌}
use mathlib.Core.Bool.{Bool, false, ◌&&◌}
use mathlib.Core.List.{List, [], ◌∷◌}
use native.Mathlib.Omega.{arith}
use lib.ListN.{length, replicate}
use Rattle.netlist.specs.Netlist.{Netlist}
use Rattle.masking.specs.Leak.{count, public_only, Secret, EqualCounts, Clean, setting, first_wire, count_at, base_at}
use Rattle.masking.specs.Leak.{leak}
use Rattle.theorems.specs.Secrets.{AllEqual, AllSecret}

-- a base has no bit that is one
all-zero : (es : List ℕ) → Secret es → (x : List Bool) → public_only es x ≡ replicate (length es) false
all-zero [] h x = refl
all-zero (e ∷ es) h [] = ap (λ (y : List Bool). false ∷ y) (all-zero es (λ i l. h (suc i) (omega arith)) [])
all-zero (e ∷ es) h (b ∷ x) =
    ap₂ (λ (c : Bool) (y : List Bool). c ∷ y) (ap (λ (c : Bool). c && b) (h 0 (omega arith)))
    (all-zero es (λ i l. h (suc i) (omega arith)) x)

-- nor has setting 0
setting-zero : (es : List ℕ) → setting (length es) 0 ≡ replicate (length es) false
setting-zero [] = refl
setting-zero (e ∷ es) = ap (λ (y : List Bool). false ∷ y) (setting-zero es)

module _ (N : Netlist) (codes : List ℕ) (secret : Secret codes) where
  pub all-equal : (w : ℕ) → EqualCounts N codes w → AllEqual N codes w
  all-equal w h x y a b = h x y (record {
    first = a;
    second = b;
    public = all-zero codes secret x
        ∙ sym (all-zero codes secret y);
  })

  pub equal-all : (w : ℕ) → AllEqual N codes w → EqualCounts N codes w
  equal-all w h x y same = h x y same.first same.second

  all-clean : Clean N codes → (w : ℕ) → w < N.wires → AllEqual N codes w
  all-clean h w l = all-equal w (h w l)

  clean_all : ((w : ℕ) → w < N.wires → AllEqual N codes w) → Clean N codes
  clean_all h w l = equal-all w (h w l)

  base-first : (w s : ℕ) → base_at N codes w s ≡ count_at N codes w 0
  base-first w s = ap (count N codes w) (all-zero codes secret (setting (length codes) s) ∙ sym (setting-zero codes))

  leak-first : leak N codes ≡ first_wire (λ w s. count_at N codes w 0) (count_at N codes) (2 ^ length codes) N.wires
      0
  unfolding leak
  leak-first = λ i. first_wire (λ w s. base-first w s i) (count_at N codes) (2 ^ length codes) N.wires 0

pub all-secret : AllSecret
all-secret N codes secret = record {
  clean = all-clean N codes secret;
  clean_back = clean_all N codes secret;
  base = base-first N codes secret;
  first = leak-first N codes secret;
}
