-- The list of the places of marks: different numbers, below the number of marks.
use Prim.Native.Nat.{ℕ, zero, suc, ◌+◌, ◌≤◌, ◌<◌}
use mathlib.Core.Path.{◌≡◌, refl, ap}
use mathlib.Core.Bool.{Bool, true, false}
use mathlib.Core.List.{List, [], ◌∷◌}
use native.Mathlib.Omega.{arith}
use lib.ListN.{length, get_or}
use Rattle.check_wide.specs.Reach.{places}

pub place-from : (k : ℕ) (ks : List Bool) (a : ℕ) → a < length (places k ks) → k ≤ get_or (places k ks) a 0
place-from k [] a l = absurd (omega arith)
place-from k (true ∷ ks) zero l = omega arith
place-from k (true ∷ ks) (suc a) l = let h = place-from (k + 1) ks a (omega arith) in omega arith
place-from k (false ∷ ks) a l = let h = place-from (k + 1) ks a l in omega arith

pub place-below : (k : ℕ) (ks : List Bool) (a : ℕ) → a < length (places k ks) → get_or (places k ks) a 0 < k + length ks
place-below k [] a l = absurd (omega arith)
place-below k (true ∷ ks) zero l = omega arith
place-below k (true ∷ ks) (suc a) l = let h = place-below (k + 1) ks a (omega arith) in omega arith
place-below k (false ∷ ks) a l = let h = place-below (k + 1) ks a l in omega arith

pub places-rise : (k : ℕ) (ks : List Bool) (a b : ℕ) → a < b → b < length (places k ks)
    → get_or (places k ks) a 0 < get_or (places k ks) b 0
places-rise k [] a b l m = absurd (omega arith)
places-rise k (true ∷ ks) a zero l m = absurd (omega arith)
places-rise k (true ∷ ks) zero (suc b) l m = let h = place-from (k + 1) ks b (omega arith) in omega arith
places-rise k (true ∷ ks) (suc a) (suc b) l m = places-rise (k + 1) ks a b (omega arith) (omega arith)
places-rise k (false ∷ ks) a b l m = places-rise (k + 1) ks a b l m

pub places-apart : (k : ℕ) (ks : List Bool) (a b : ℕ) → a < length (places k ks) → b < length (places k ks)
    → get_or (places k ks) a 0 ≡ get_or (places k ks) b 0 → a ≡ b
places-apart k [] a b l m e = absurd (omega arith)
places-apart k (true ∷ ks) zero zero l m e = refl
places-apart k (true ∷ ks) zero (suc b) l m e = let h = place-from (k + 1) ks b (omega arith) in absurd (omega arith)
places-apart k (true ∷ ks) (suc a) zero l m e = let h = place-from (k + 1) ks a (omega arith) in absurd (omega arith)
places-apart k (true ∷ ks) (suc a) (suc b) l m e = ap suc (places-apart (k + 1) ks a b (omega arith) (omega arith) e)
places-apart k (false ∷ ks) a b l m e = places-apart (k + 1) ks a b l m e
