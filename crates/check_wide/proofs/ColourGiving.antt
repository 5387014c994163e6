-- Colours given one after the other, and compared.
use Prim.Native.Nat.{ℕ, zero, suc, max, ◌+◌, ◌*◌, ◌/◌, ◌%◌, ◌≤◌, ◌<◌}
use mathlib.Core.Path.{◌≡◌, refl, sym, ap, ◌∙◌, subst}
use mathlib.Core.List.{List, [], ◌∷◌}
use mathlib.Core.Logic.{◌≢◌}
use mathlib.Core.Bool.{Bool, true, false}
use native.Mathlib.Omega.{arith}
use lib.Dec.{eqb, ltb}
use lib.ListN.{length, get_or, set, length-set}
use lib.Seq.{get_or-set_same, get_or-set_other, set_out}
use borrow.Author.Count.{below_more}
use borrow.Author.Tests.{eqb-true, eqb-false, ltb-true, ltb-false}
use Rattle.netlist.proofs.Tests.{on_bool}
use Rattle.leak_search.specs.Paint.{code_of, colour_of, codes_of}
use Rattle.check_wide.specs.Rule.{colour_at, Different}
use Rattle.check_wide.specs.PaintColours.{Upto, Coloured, Kept, Inputs, Seeded}

-- ---- one colour given

-- an input's paint with another colour
abbrev pub repainted : List ℕ → ℕ → ℕ → List ℕ
repainted ps i c = set ps i (get_or ps i 0 % 4 + 4 * c)

codes-kept : (ps : List ℕ) (i c : ℕ) → codes_of (repainted ps i c) ≡ codes_of ps
codes-kept [] i c = refl
codes-kept (p ∷ ps) zero c = let e : (p % 4 + 4 * c) % 4 ≡ p % 4 = omega arith in ap (λ (d : ℕ). d ∷ codes_of ps) e
codes-kept (p ∷ ps) (suc i) c = ap (λ (ds : List ℕ). code_of p ∷ ds) (codes-kept ps i c)

colour-here : (ps : List ℕ) (i c : ℕ) → i < length ps → colour_of (get_or (repainted ps i c) i 0) ≡ c
colour-here ps i c l =
    let d = get_or ps i 0 in
    let e : (d % 4 + 4 * c) / 4 ≡ c = omega arith in
    ap colour_of (get_or-set_same ps i (d % 4 + 4 * c) 0 l) ∙ e

colour-other : (ps : List ℕ) (i j c : ℕ) → j ≢ i → colour_of (get_or (repainted ps i c) j 0) ≡ colour_of (get_or ps j 0)
colour-other ps i j c n = ap colour_of (get_or-set_other ps i j (get_or ps i 0 % 4 + 4 * c) 0 n)

pub coloured-then : {ps qs rs : List ℕ} → Coloured ps qs → Coloured qs rs → Coloured ps rs
coloured-then a b = record { codes = b.codes ∙ a.codes; upto = λ h. b.upto (a.upto h) }

pub coloured-one : (ps : List ℕ) (i c : ℕ) → c ≤ 12 → Coloured ps (repainted ps i c)
coloured-one ps i c l = record {
  codes = codes-kept ps i c;
  upto = λ h j. on_bool (eqb j i)
      (λ t. let e = eqb-true j i t in
      on_bool (ltb i (length ps))
      (λ b. let k = colour-here ps i c (ltb-true i (length ps) b) in rw e (omega arith))
      (λ b. let o = set_out ps i (get_or ps i 0 % 4 + 4 * c) (ltb-false i (length ps) b)
      in subst (λ (qs : List ℕ). colour_of (get_or qs j 0) ≤ 12) (sym o) (h j)))
      (λ t. let k = colour-other ps i j c (eqb-false j i t) in omega (arith, h j));
}

-- one that had none
pub kept-one : (ps : List ℕ) (i c : ℕ) → get_or ps i 0 < 4 → c ≤ 12 → Kept ps (repainted ps i c)
kept-one ps i c z l = record {
  coloured = coloured-one ps i c l;
  stay = λ j m. colour-other ps i j c (λ e. let n : get_or ps j 0 < 4 = rw e z in omega arith);
}

-- ---- sets with different colours keep them

pub different-kept : {is ps qs : List ℕ} → Kept ps qs → Different is ps → Different is qs
different-kept {is} {ps} {qs} K D =
    let same : (a : ℕ) → a < length is → colour_at is qs a ≡ colour_at is ps a = λ a l. K.stay (get_or is a 0)
    (D.some a l) in
    record {
      some = λ a l. let e = same a l in omega (arith, D.some a l);
      apart = λ a b l m q. D.apart a b l m (sym (same a l) ∙ q ∙ same b m);
    }

-- ---- the colours 1, 2, 3 and so on

pub record Seeding (is ps ps' : List ℕ) (a : ℕ) : Type 0 where
  pub passed : a ≤ length is
  pub long : length ps' ≡ length ps
  pub coloured : Coloured ps ps'
  pub each : Inputs is (length ps) → (b : ℕ) → b < a → colour_at is ps' b ≡ b + 1

pub seeding-more : {is ps qs : List ℕ} {a : ℕ} (i c : ℕ) → Seeding is ps qs a → a < length is → i ≡ get_or is a 0 → c
    ≡ a + 1 → c ≤ 12
    → Seeding is ps (repainted qs i c) (a + 1)
seeding-more {is} {ps} {qs} {a} i c S l e d m = record {
  passed = omega arith;
  long = length-set qs i _ ∙ S.long;
  coloured = coloured-then S.coloured (coloured-one qs i c m);
  each = λ I. below_more (λ b. colour_at is (repainted qs i c) b ≡ b + 1) a
      (λ b k. colour-other qs i (get_or is b 0) c (λ q. let z : b ≡ a = I.apart b a (omega arith) l (q ∙ e)
      in omega arith) ∙ S.each I b k)
      (let inside : i < length qs = omega (arith, I.inside a l, S.long) in
      ap (λ (j : ℕ). colour_of (get_or (repainted qs i c) j 0)) (sym e) ∙ colour-here qs i c inside ∙ d);
}

pub seeded-different : {is ps qs : List ℕ} → Seeded is ps qs → Inputs is (length ps) → Different is qs
seeded-different S I = record {
  some = λ a l. omega (arith, S.each I a l);
  apart = λ a b l m q. omega (arith, S.each I a l, S.each I b m);
}

-- ---- the highest colour

abbrev pub highest : List ℕ → ℕ
highest [] = 0
highest (p ∷ ps) = max (p / 4) (highest ps)

pub highest-upto : (ps : List ℕ) → Upto (highest ps) ps
highest-upto [] i = omega arith
highest-upto (p ∷ ps) zero = omega arith
highest-upto (p ∷ ps) (suc i) = let h = highest-upto ps i in omega (arith, h)

pub highest-below : (ps : List ℕ) (k : ℕ) → Upto k ps → highest ps ≤ k
highest-below [] k h = omega arith
highest-below (p ∷ ps) k h = let z = h 0 in let r = highest-below ps k (λ i. h (suc i)) in omega (arith, z, r)

-- ---- the test

pub record Telling (is ps : List ℕ) (seen : List Bool) (a : ℕ) : Type 0 where
  pub passed : a ≤ length is
  pub long : length seen ≡ 13
  pub some : (b : ℕ) → b < a → 0 < colour_at is ps b
  pub met : (b : ℕ) → b < a → get_or seen (colour_at is ps b) false ≡ true
  pub apart : (b d : ℕ) → b < a → d < a → colour_at is ps b ≡ colour_at is ps d → b ≡ d
