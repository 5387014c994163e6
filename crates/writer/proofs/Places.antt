-- A list of bytes stored at a place of a list, past its end too.
use Prim.Native.Nat.{ℕ, zero, suc, ◌+◌, ◌≤◌, ◌<◌}
use mathlib.Core.Path.{◌≡◌, refl, sym, ap, ◌∙◌}
use mathlib.Core.Bool.{true, false}
use mathlib.Core.List.{List, [], ◌∷◌, ◌++◌}
use native.Mathlib.Nat.{not-suc-le-zero, le_of_suc-le-suc}
use native.Mathlib.Omega.{arith}
use lib.Dec.{leb}
use lib.ListN.{length, set}
use lib.Seq.{sets}
use borrow.Author.Tests.{leb-true, leb-false}
use Rattle.netlist.proofs.Tests.{on_bool}
use Rattle.writer.specs.Wrote.{top, cap}

set_out : {A : Type 0} (l : List A) (i : ℕ) (v : A) → length l ≤ i → set l i v ≡ l
set_out [] i v h = refl
set_out (x ∷ l) zero v h = absurd (not-suc-le-zero h)
set_out (x ∷ l) (suc i) v h = ap (λ (k : List _). x ∷ k) (set_out l i v (le_of_suc-le-suc h))

-- past the end nothing is stored
pub sets-out : (l : List ℕ) (i : ℕ) (vs : List ℕ) → length l ≤ i → sets l i vs ≡ l
sets-out l i [] h = refl
sets-out l i (v ∷ vs) h = rw (set_out l i v h) (sets-out l (suc i) vs (omega arith))

pub sets-append : (l : List ℕ) (i : ℕ) (u v : List ℕ) → sets l i (u ++ v) ≡ sets (sets l i u) (i + length u) v
sets-append l i [] v = let z : i ≡ i + 0 = omega arith in ap (λ (k : ℕ). sets l k v) z
sets-append l i (a ∷ u) v =
    let z : suc i + length u ≡ i + suc (length u) = omega arith in
    sets-append (set l i a) (suc i) u v ∙ ap (λ (k : ℕ). sets (sets (set l i a) (suc i) u) k v) z

-- from the largest place on nothing is stored, so the cap is not seen
pub sets-cap : (l : List ℕ) (p : ℕ) (vs : List ℕ) → length l ≤ top → sets l (cap p) vs ≡ sets l p vs
sets-cap l p vs h = on_bool (leb p top) below beyond
  where
    below : leb p top ≡ true → sets l (cap p) vs ≡ sets l p vs
    below e = let k : p ≤ top = leb-true p top e in let z : cap p ≡ p = omega arith in ap (λ (i : ℕ). sets l i vs) z

    beyond : leb p top ≡ false → sets l (cap p) vs ≡ sets l p vs
    beyond e = let k : top < p = leb-false p top e in sets-out l (cap p) vs (omega arith)
        ∙ sym (sets-out l p vs (omega arith))
