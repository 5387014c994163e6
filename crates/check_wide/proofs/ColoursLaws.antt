-- Different colours of a set of inputs, by its marks and by its list.
use Prim.Native.Nat.{ℕ, zero, suc, ◌+◌, ◌<◌}
use mathlib.Core.Path.{◌≡◌, sym, ap, ◌∙◌}
use mathlib.Core.Bool.{Bool, true, false}
use mathlib.Core.List.{List, [], ◌∷◌}
use native.Mathlib.Omega.{arith}
use lib.Dec.{T}
use lib.ListN.{length, get_or}
use Rattle.leak_search.specs.Paint.{colour_of}
use Rattle.check_wide.specs.Reach.{marks, places}
use Rattle.check_wide.specs.Rule.{Different}
use Rattle.check_wide.proofs.Marks.{marks-at}

-- the inputs of a set have colours, each its own
pub record Rainbow (within : ℕ → Bool) (ps : List ℕ) : Type 0 where
  pub some : (i : ℕ) → i < length ps → T (within i) → 0 < colour_of (get_or ps i 0)
  pub apart : (i j : ℕ) → i < length ps → j < length ps → T (within i) → T (within j) → colour_of (get_or ps i 0)
      ≡ colour_of (get_or ps j 0) → i ≡ j

-- where a marked place stands in the list of places
abbrev pub rank : List Bool → ℕ → ℕ
rank [] i = 0
rank (true ∷ ks) zero = 0
rank (true ∷ ks) (suc i) = suc (rank ks i)
rank (false ∷ ks) zero = 0
rank (false ∷ ks) (suc i) = rank ks i

pub rank-at : (ks : List Bool) (k i : ℕ) → T (get_or ks i false) → (rank ks i < length (places k ks))
    × (get_or (places k ks) (rank ks i) 0 ≡ k + i)
rank-at [] k i t = absurd t
rank-at (true ∷ ks) k zero t = (omega arith, omega arith)
rank-at (true ∷ ks) k (suc i) t = let h = rank-at ks (k + 1) i t in (omega (arith, h.0), omega (arith, h.1))
rank-at (false ∷ ks) k zero t = absurd t
rank-at (false ∷ ks) k (suc i) t = let h = rank-at ks (k + 1) i t in (h.0, omega (arith, h.1))

pub different-rainbow : (within : ℕ → Bool) (ps : List ℕ) → Different (places 0 (marks within 0 (length ps))) ps
    → Rainbow within ps
different-rainbow within ps D = record {
  some = λ i l r. let a = at i l r in rw (← a.1) (D.some (rank ks i) a.0);
  apart = λ i j l m r s q.
      let a = at i l r in
      let b = at j m s in
      let e : rank ks i ≡ rank ks j = D.apart (rank ks i) (rank ks j) a.0 b.0
      (ap (λ (n : ℕ). colour_of (get_or ps n 0)) a.1 ∙ q ∙ ap (λ (n : ℕ). colour_of (get_or ps n 0)) (sym b.1)) in
      sym a.1 ∙ ap (λ (n : ℕ). get_or (places 0 ks) n 0) e ∙ b.1;
}
  where
    ks : List Bool
    ks = marks within 0 (length ps)

    at : (i : ℕ) → i < length ps → T (within i) → (rank ks i < length (places 0 ks))
        × (get_or (places 0 ks) (rank ks i) 0 ≡ i)
    at i l r =
        let z : 0 + i ≡ i = omega arith in
        let h = rank-at ks 0 i (rw (marks-at within 0 (length ps) i l, z) r) in
        (h.0, h.1 ∙ z)
