-- A list that stands over the front of a table.
use mathlib.Core.Path.{◌≡◌, sym, ap, ◌∙◌}
use mathlib.Core.Bool.{Bool, false}
use mathlib.Core.List.{List, ◌++◌, map}
use Prim.Native.Nat.{ℕ, ◌+◌, ◌≤◌}
use native.Mathlib.Omega.{arith}
use lib.ListN.{length, get_or, drop, length-map, get_or-map}
use lib.Seq.{sets, sets-eq}
use Rattle.netlist.specs.Eval.{bit}

front-eq : (s d : List ℕ) → length s ≤ length d → sets d 0 s ≡ s ++ drop (length s) d
front-eq s d h =
    let e : 0 + length s ≡ length s = omega arith in
    sets-eq s d 0 (omega arith) ∙ ap (λ (k : ℕ). s ++ drop k d) e

-- what a copy over the front leaves
pub copied-front : (s d : List ℕ) {n : ℕ} {x : List ℕ} → x ≡ s → n ≡ length s → length s ≤ length d → x ++ drop n d
    ≡ sets d 0 s
copied-front s d e l h = rw (e, l) (sym (front-eq s d h))

-- a list's bits, as a test has them
module _ (test : ℕ → Bool) (s : List ℕ) where
  pub bits-long : length (map bit (map test s)) ≡ length s
  bits-long = simp length-map

  pub bits_at : (i : ℕ) → test 0 ≡ false → bit (test (get_or s i 0)) ≡ get_or (map bit (map test s)) i 0
  bits_at i e =
      let at : get_or (map test s) i false ≡ test (get_or s i 0) = rw (← e) (get_or-map test s i 0) in
      sym (get_or-map bit (map test s) i false ∙ ap bit at)
