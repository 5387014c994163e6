-- A list at the front of another.
use Prim.Native.Nat.{ℕ, ◌+◌, ◌≤◌}
use mathlib.Core.Path.{◌≡◌, sym, ap, ◌∙◌}
use mathlib.Core.List.{List, ◌++◌}
use native.Mathlib.Omega.{arith}
use lib.ListN.{length, drop}
use lib.Seq.{sets, sets-eq}

pub front-of : (s d x : List ℕ) → length s ≤ length d → x ≡ s → x ++ drop (length s) d ≡ sets d 0 s
front-of s d x h e =
    let z : length s ≡ 0 + length s = omega arith in
    ap (λ (y : List ℕ). y ++ drop (length s) d) e
    ∙ sym (sets-eq s d 0 (omega arith) ∙ ap (λ (k : ℕ). s ++ drop k d) (sym z))
