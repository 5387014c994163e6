-- Settings of marked bits alone: the map from their numbers to whole settings' numbers rises, and each setting has the
-- marked bits of one that is not larger.
use Prim.Native.Nat.{ℕ, zero, suc, ◌+◌, ◌*◌, ◌/◌, ◌%◌, ◌^◌, ◌≤◌, ◌<◌}
use mathlib.Core.Path.{◌≡◌, ap, ◌∙◌}
use mathlib.Core.Bool.{Bool, true, false}
use mathlib.Core.List.{List, [], ◌∷◌}
use native.Mathlib.Nat.{pow-suc}
use native.Mathlib.Omega.{arith}
use lib.Dec.{T, eqb, ltb, lit<}
use lib.ListN.{length, get_or}
use borrow.Author.Tests.{ltb-true, ltb-false}
use Rattle.masking.specs.Leak.{setting}
use Rattle.netlist.proofs.Tests.{on_bool}
use Rattle.check_wide.specs.Reach.{size}

-- the number of a setting whose marked bits are those of t in order, and whose other bits are zero
abbrev pub spread : List Bool → ℕ → ℕ
spread [] t = 0
spread (true ∷ ks) t = t % 2 + 2 * spread ks (t / 2)
spread (false ∷ ks) t = 2 * spread ks t

-- the marked bits of a setting, as the number of their own setting
abbrev pub gather : List Bool → ℕ → ℕ
gather [] s = 0
gather (true ∷ ks) s = s % 2 + 2 * gather ks (s / 2)
gather (false ∷ ks) s = gather ks (s / 2)

pub spread-below : (ks : List Bool) (t : ℕ) → spread ks t < 2 ^ length ks
spread-below [] t = lit< tt
spread-below (true ∷ ks) t = let h = spread-below ks (t / 2) in rw pow-suc (omega arith)
spread-below (false ∷ ks) t = let h = spread-below ks t in rw pow-suc (omega arith)

pub gather-below : (ks : List Bool) (s : ℕ) → gather ks s < 2 ^ size ks
gather-below [] s = lit< tt
gather-below (true ∷ ks) s = let h = gather-below ks (s / 2) in rw pow-suc (omega arith)
gather-below (false ∷ ks) s = gather-below ks (s / 2)

-- the order is kept
record Rises (ks : List Bool) (s t : ℕ) : Type 0 where
  upto : t ≤ gather ks s → spread ks t ≤ s
  under : t < gather ks s → spread ks t < s

rises : (ks : List Bool) (s t : ℕ) → Rises ks s t
rises [] s t = record { upto = λ h. omega arith; under = λ h. absurd (omega arith) }
rises (true ∷ ks) s t =
    let H = rises ks (s / 2) (t / 2) in
    let G = gather ks (s / 2) in
    record {
      upto = λ h. on_bool (ltb (t / 2) G)
          (λ b. omega (arith, H.under (ltb-true (t / 2) G b)))
          (λ b. let l = ltb-false (t / 2) G b in let k : t / 2 ≤ G = omega arith in omega (arith, H.upto k));
      under = λ h. on_bool (ltb (t / 2) G)
          (λ b. omega (arith, H.under (ltb-true (t / 2) G b)))
          (λ b. let l = ltb-false (t / 2) G b in let k : t / 2 ≤ G = omega arith in omega (arith, H.upto k));
    }
rises (false ∷ ks) s t =
    let H = rises ks (s / 2) t in
    record { upto = λ h. omega (arith, H.upto h); under = λ h. omega (arith, H.under h) }

pub spread-upto : (ks : List Bool) (s t : ℕ) → t ≤ gather ks s → spread ks t ≤ s
spread-upto ks s t = (rises ks s t).upto

-- gathered and spread again, the marked bits are the same
pub gathered-at : (ks : List Bool) (s i : ℕ) → T (get_or ks i false)
    → get_or (setting (length ks) s) i false ≡ get_or (setting (length ks) (spread ks (gather ks s))) i false
gathered-at [] s i k = absurd k
gathered-at (true ∷ ks) s zero k =
    let G = gather ks (s / 2) in
    let X = spread ks ((s % 2 + 2 * G) / 2) in
    let e : s % 2 ≡ ((s % 2 + 2 * G) % 2 + 2 * X) % 2 = omega arith in
    ap (λ (m : ℕ). eqb m 1) e
gathered-at (true ∷ ks) s (suc i) k =
    let G = gather ks (s / 2) in
    let e : G ≡ (s % 2 + 2 * G) / 2 = omega arith in
    let X = spread ks ((s % 2 + 2 * G) / 2) in
    let d : X ≡ ((s % 2 + 2 * G) % 2 + 2 * X) / 2 = omega arith in
    gathered-at ks (s / 2) i k ∙ ap (λ (m : ℕ). get_or (setting (length ks) m) i false) (ap (spread ks) e ∙ d)
gathered-at (false ∷ ks) s zero k = absurd k
gathered-at (false ∷ ks) s (suc i) k =
    let X = spread ks (gather ks (s / 2)) in
    let d : X ≡ 2 * X / 2 = omega arith in
    gathered-at ks (s / 2) i k ∙ ap (λ (m : ℕ). get_or (setting (length ks) m) i false) d
