-- The sets before the first gate line.
use Prim.Native.Nat.{ℕ, ◌+◌, ◌/◌, ◌%◌, ◌≤◌, ◌<◌}
use mathlib.Core.Path.{◌≡◌, refl, ap, ◌∙◌}
use mathlib.Core.Bool.{Bool, true, false, cond, ◌&&◌}
use mathlib.Core.List.{List}
use native.Mathlib.Omega.{arith}
use lib.Dec.{ltb}
use lib.ListN.{length, get_or, get_or-eq_default}
use borrow.Author.Tests.{ltb-true, ltb-false}
use Rattle.netlist.proofs.Tests.{on_bool}
use Rattle.check_wide.specs.Sets.{members_end}
use Rattle.check_wide.specs.Packed.{second, above, count_in, list_in, sets, set_at, start_set, start_entry}

pub record Started (n : ℕ) (set₀ set₁ : List ℕ) (w : ℕ) : Type 0 where
  pub passed : w ≤ length set₀
  pub long : length set₁ ≡ length set₀
  pub done : (v : ℕ) → v < w → get_or set₁ v 0 ≡ start_entry n v

module _ {n : ℕ} {s t : List ℕ} {w : ℕ} (h : Started n s t w) (all : length s ≤ w) (few : n ≤ members_end) where
  entry : (v : ℕ) → v < length s → get_or t v 0 ≡ start_entry n v
  entry v l = h.done v (omega arith)

  past : (v : ℕ) → length s ≤ v → get_or t v 0 ≡ 0
  past v l = get_or-eq_default t 0 {n = v} (omega (arith, h.long))

  pub started-count : (v : ℕ) → count_in (get_or t v 0) ≤ 12
  started-count v =
      on_bool (ltb v (length s))
      (λ b. rw (entry v (ltb-true v (length s) b)) (on_bool (ltb v n)
      (λ c. let k = ltb-true v n c in rw c (omega arith)) (λ c. rw c (omega arith))))
      (λ b. rw (past v (ltb-false v (length s) b)) (omega arith))

  pub started-all : (b c d : List ℕ) (v : ℕ) → set_at (sets t b c d) v ≡ start_set n (length s) v
  started-all b c d v =
      on_bool (ltb v (length s))
      (λ p. let l = ltb-true v (length s) p in
      on_bool (ltb v n)
      (λ q. let k = ltb-true v n q in
      let x = entry v l ∙ ap (λ (t : Bool). cond t (v + above) 0) q in
      let o : (v + above) / above ≡ 1 = omega arith in
      let m : (v + above) % second ≡ v = omega arith in
      rw (p, q) (ap (λ (e : ℕ). list_in e (get_or b v 0) (get_or c v 0) (get_or d v 0)) x ∙ rw (o, m)))
      (λ q. rw (p, q) (ap (λ (e : ℕ). list_in e (get_or b v 0) (get_or c v 0) (get_or d v 0))
      (entry v l ∙ ap (λ (t : Bool). cond t (v + above) 0) q))))
      (λ p. rw (p, and_none (ltb v n)) (ap (λ (e : ℕ). list_in e (get_or b v 0) (get_or c v 0) (get_or d v 0))
      (past v (ltb-false v (length s) p))))
    where
      and_none : (a : Bool) → (a && false) ≡ false
      and_none true = refl
      and_none false = refl
