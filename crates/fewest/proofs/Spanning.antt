-- How many choices share their first places.
use Prim.Native.Nat.{ℕ, zero, suc, ◌+◌, ◌*◌, ◌-◌, ◌≤◌, ◌<◌, min}
use mathlib.Core.Path.{◌≡◌, refl, ap, ap₂, ◌∙◌}
use mathlib.Core.List.{List}
use native.Mathlib.Omega.{arith}
use native.Mathlib.Nat.{mul_comm}
use lib.Dec.{eqb, leb}
use borrow.Author.Tests.{eqb-true, eqb-false, leb-true, leb-false}
use lib.ListN.{length, get_or, set, take, drop, length-set}
use lib.Seq.{length-take-le, get_or-set_same, get_or-set_other, drop-cons, drop-length}
use Rattle.netlist.proofs.Tests.{on_bool}
use Rattle.fewest.specs.Choice.{product}
use Rattle.fewest.specs.Advance.{ways_at}
use Rattle.fewest.specs.Span.{span_of, most, capped, Spanned}
use Rattle.fewest.proofs.Advancing.{ways-cut}

-- ---- the loop: the places from p on are done

-- a number of choices times the ways of one more place, as it is kept
pub capped-times : (w x : ℕ) → 1 ≤ w → capped (capped x * w) ≡ capped (w * x)
capped-times w x h = on_bool (leb x most)
    (λ e. let b = leb-true x most e in let y : capped x ≡ x = omega arith in rw (y, mul_comm x w) refl)
    (λ e. let b = leb-false x most e in
    let y : capped x ≡ most = omega arith in
    let p : most ≤ most * w = grind arith in
    let q : most ≤ w * x = grind arith in
    rw y (omega arith))

-- a capped product, as a multiplication that stops at the largest number gives it
pub capped-same : (s : ℕ) {w v u r : ℕ} → v ≡ w → u ≡ v → r ≡ min (s * u) most → r ≡ capped (s * w)
capped-same s e f h = let g = rw (f, e) at h in omega arith

pub record Spanning (w : ℕ → ℕ) (P : ℕ) (s₀ s : List ℕ) (p span : ℕ) : Type 0 where
  pub each : (q : ℕ) → p ≤ q → q < P → get_or s q 0 ≡ capped (span_of w (suc q) (P - suc q))
  pub next : span ≡ capped (span_of w p (P - p))
  pub size : length s ≡ length s₀

pub spanning-more : {w : ℕ → ℕ} {P : ℕ} {s₀ s : List ℕ} {p span r : ℕ} → Spanning w P s₀ s (suc p) span → p < P
    → P ≤ length s₀ → 1 ≤ w p
    → r ≡ capped (span * w p) → Spanning w P s₀ (set s p span) p r
spanning-more {w} {P} {s₀} {s} {p} {span} {r} I h l o t =
    let z = I.size in
    let f : P - p ≡ suc (P - suc p) = omega arith in
    record {
      each = λ q a b. on_bool (eqb q p)
          (λ y. let v = eqb-true q p y in rw v (get_or-set_same s p span 0 (omega arith) ∙ I.next))
          (λ y. let n : q ≡ p → ⊥ = eqb-false q p y in get_or-set_other s p q span 0 n ∙ I.each q (omega arith) b);
      next = t ∙ ap (λ (x : ℕ). capped (x * w p)) I.next ∙ capped-times (w p) (span_of w (suc p) (P - suc p)) o
          ∙ rw f refl;
      size = length-set s p span ∙ z;
    }

-- ---- what an entry is: the product of the ways after

pub span-product : (w : ℕ → ℕ) (bs : List ℕ) → ((q : ℕ) → q < length bs → get_or bs q 0 ≡ w q) → (k p : ℕ) → p + k
    ≡ length bs
    → product (drop p bs) ≡ span_of w p k
span-product w bs h zero p e = let z : p ≡ length bs = omega arith
    in ap product (ap (λ (q : ℕ). drop q bs) z ∙ drop-length bs)
span-product w bs h (suc k) p e =
    ap product (drop-cons bs p 0 (omega arith))
    ∙ ap₂ (λ (a b : ℕ). a * b) (h p (omega arith)) (span-product w bs h k (suc p) (omega arith))

-- ---- the gates up to one, of a table of results that is cut

span-same : (v w : ℕ → ℕ) (P : ℕ) → ((q : ℕ) → q < P → v q ≡ w q) → (k p : ℕ) → p + k ≤ P → span_of v p k
    ≡ span_of w p k
span-same v w P h zero p l = refl
span-same v w P h (suc k) p l = ap₂ (λ (a b : ℕ). a * b) (h p (omega arith)) (span-same v w P h k (suc p) (omega arith))

pub spanned-cut : (codes results : List ℕ) (k : ℕ) {s₀ s : List ℕ} → k ≤ length results
    → Spanned (ways_at codes (take k results)) (length codes + length (take k results)) s₀ s
    → Spanned (ways_at codes results) (length codes + k) s₀ s
spanned-cut codes results k l R = let S = rw (length-take-le k results l) at R in record {
  each = λ p h.
      S.each p h
      ∙ ap capped (span-same _ _ (length codes + k) (λ q b. ways-cut codes results k q b l) (length codes + k - suc p)
      (suc p) (omega arith));
  size = S.size;
}
