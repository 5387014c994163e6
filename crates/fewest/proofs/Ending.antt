-- The changes of the outputs.
use Prim.Native.Nat.{ℕ, ◌≤◌}
use mathlib.Core.Bool.{Bool, true, false, cond}
use mathlib.Core.List.{List, [], ◌∷◌}
use native.Mathlib.Omega.{arith}
use lib.Dec.{eqb}
use lib.ListN.{length}
use Rattle.masking.specs.Changes.{output_change}
use Rattle.fewest.specs.Codes.{end_changes}

-- one output
out-most : (e d : ℕ) → output_change e d ≤ 1
out-most e d = go (eqb d 0) (eqb d e)
  where
    go : (a b : Bool) → cond a 0 (cond b 0 1) ≤ 1
    go true b = omega arith
    go false true = omega arith
    go false false = omega arith

-- all outputs: at most as many changes
pub ends-most : (es ws : List ℕ) → end_changes es ws ≤ length ws
ends-most [] ws = omega arith
ends-most (e ∷ es) [] = omega arith
ends-most (e ∷ es) (w ∷ ws) = omega (arith, out-most e w, ends-most es ws)

-- and at most as many as there are codes
pub ends-few : (es ws : List ℕ) → end_changes es ws ≤ length es
ends-few [] ws = omega arith
ends-few (e ∷ es) [] = omega arith
ends-few (e ∷ es) (w ∷ ws) = omega (arith, out-most e w, ends-few es ws)
