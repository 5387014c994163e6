-- Settings by colours, bit by bit.
use mathlib.Core.Path.{◌≡◌, refl, sym, ap, ap₂, ◌∙◌}
use mathlib.Core.Bool.{Bool, true, false, ◌&&◌}
use mathlib.Core.List.{List, [], ◌∷◌}
use Prim.Native.Nat.{ℕ, zero, suc, ◌+◌, ◌-◌, ◌*◌, ◌/◌, ◌%◌, ◌<◌}
use native.Mathlib.Omega.{arith}
use lib.ListN.{length, get_or}
use Rattle.netlist.specs.Netlist.{Netlist}
use Rattle.masking.specs.Leak.{count, public_only, Secret, setting}
use Rattle.evaluate.specs.Lane.{lane}
use Rattle.evaluate.proofs.Lanes.{lane-zero}
use Rattle.masking.specs.Mask.{is_public}
use Rattle.leak_search.specs.Base.{kept, part, count_in}
use Rattle.leak_search.specs.Paint.{code_of, colour_of, codes_of, shade, paint, paint_each}

pub length-codes_of : (ps : List ℕ) → length (codes_of ps) ≡ length ps
length-codes_of [] = refl
length-codes_of (p ∷ ps) = ap suc (length-codes_of ps)

pub codes_of-at : (ps : List ℕ) (i : ℕ) → i < length ps → get_or (codes_of ps) i 0 ≡ code_of (get_or ps i 0)
codes_of-at [] i l = absurd (omega arith)
codes_of-at (p ∷ ps) zero l = refl
codes_of-at (p ∷ ps) (suc i) l = codes_of-at ps i (omega arith)

pub length-paint : (ps : List ℕ) (t : ℕ) → length (paint ps t) ≡ length ps
length-paint [] t = refl
length-paint (p ∷ ps) t = ap suc (length-paint ps t)

pub paint-at : (ps : List ℕ) (t i : ℕ) → i < length ps → get_or (paint ps t) i false ≡ shade (colour_of (get_or ps i 0))
    t
paint-at [] t i l = absurd (omega arith)
paint-at (p ∷ ps) t zero l = refl
paint-at (p ∷ ps) t (suc i) l = paint-at ps t i (omega arith)

-- ---- number 0

shade-zero : (c : ℕ) → shade c 0 ≡ false
shade-zero zero = refl
shade-zero (suc c) = lane-zero c

paint-zero : (ps : List ℕ) → paint ps 0 ≡ setting (length ps) 0
paint-zero [] = refl
paint-zero (p ∷ ps) = ap₂ (λ (b : Bool) (x : List Bool). b ∷ x) (shade-zero (colour_of p)) (paint-zero ps)

-- without public bits every base is all zero
secret-base : (es : List ℕ) → Secret es → (x : List Bool) → public_only es x ≡ setting (length es) 0
secret-base [] h x = refl
secret-base (e ∷ es) h [] = ap (λ (y : List Bool). false ∷ y) (secret-base es (λ i l. h (suc i) (omega arith)) [])
secret-base (e ∷ es) h (b ∷ x) =
    ap₂ (λ (c : Bool) (y : List Bool). c ∷ y) (ap (λ (c : Bool). c && b) (h 0 (omega arith)))
    (secret-base es (λ i l. h (suc i) (omega arith)) x)

pub zero-base : (ps : List ℕ) → Secret (codes_of ps) → (x : List Bool) → public_only (codes_of ps) x ≡ paint ps 0
zero-base ps secret x = secret-base (codes_of ps) secret x ∙ ap (λ (k : ℕ). setting k 0) (length-codes_of ps)
    ∙ sym (paint-zero ps)

-- ---- a colour for each input

pub codes-each : (k : ℕ) (es : List ℕ) → ((i : ℕ) → i < length es → get_or es i 0 < 4) → codes_of (paint_each k es) ≡ es
codes-each k [] h = refl
codes-each k (e ∷ es) h =
    let l : e < 4 = h 0 (omega arith) in
    let m : (e + 4 * suc k) % 4 ≡ e = omega arith in
    ap₂ (λ (c : ℕ) (cs : List ℕ). c ∷ cs) m (codes-each (suc k) es (λ i b. h (suc i) (omega arith)))

-- bit k + i of a number is bit i of the number shifted by k
pub paint-each : (k : ℕ) (es : List ℕ) (s r : ℕ) → ((i : ℕ) → i < length es → get_or es i 0 < 4)
    → ((i : ℕ) → lane (k + i) s ≡ lane i r)
    → paint (paint_each k es) s ≡ setting (length es) r
paint-each k [] s r h same = refl
paint-each k (e ∷ es) s r h same =
    let l : e < 4 = h 0 (omega arith) in
    let c : (e + 4 * suc k) / 4 ≡ suc k = omega arith in
    let z : k ≡ k + 0 = omega arith in
    ap₂ (λ (b : Bool) (x : List Bool). b ∷ x) (ap (λ (d : ℕ). shade d s) c ∙ ap (λ (j : ℕ). lane j s) z ∙ same 0)
    (paint-each (suc k) es s (r / 2) (λ i b. h (suc i) (omega arith)) (λ i. let e : suc k + i ≡ k + suc i = omega arith
    in ap (λ (j : ℕ). lane j s) e ∙ same (suc i)))

-- ---- one input

pub shade-some : (c t : ℕ) → (c ≡ 0 → ⊥) → shade c t ≡ lane (c - 1) t
shade-some zero t h = absurd (h refl)
shade-some (suc c) t h = let e : c ≡ suc c - 1 = omega arith in ap (λ (k : ℕ). lane k t) e

pub kept-none : (secrets : Bool) (e : ℕ) → kept secrets e false ≡ false
kept-none true e = refl
kept-none false e = and_none (is_public e)
  where
    and_none : (b : Bool) → (b && false) ≡ false
    and_none true = refl
    and_none false = refl

pub length-each : (k : ℕ) (es : List ℕ) → length (paint_each k es) ≡ length es
length-each k [] = refl
length-each k (e ∷ es) = ap suc (length-each (suc k) es)

pub each_at : (k : ℕ) (es : List ℕ) (i : ℕ) → i < length es → get_or (paint_each k es) i 0
    ≡ get_or es i 0 + 4 * suc (k + i)
each_at k [] i l = absurd (omega arith)
each_at k (e ∷ es) zero l = omega arith
each_at k (e ∷ es) (suc i) l = let h = each_at (suc k) es i (omega arith) in omega arith

-- so counts are those of numbered settings
pub each-count : (N : Netlist) (secrets : Bool) (codes : List ℕ) → ((i : ℕ) → i < length codes → get_or codes i 0 < 4)
    → (w s : ℕ)
    → count_in N secrets (paint_each 0 codes) w s ≡ count N codes w (part secrets codes (setting (length codes) s))
each-count N secrets codes h w s =
    ap₂ (λ (es : List ℕ) (x : List Bool). count N es w (part secrets es x)) (codes-each 0 codes h)
    (paint-each 0 codes s s h (λ i. let e : 0 + i ≡ i = omega arith in ap (λ (j : ℕ). lane j s) e))
