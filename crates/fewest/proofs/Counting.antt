-- Counting the gates that name one wire twice.
use Prim.Native.Nat.{ℕ, ◌+◌, ◌≤◌}
use mathlib.Core.Path.{◌≡◌}
use mathlib.Core.List.{List, [], ◌∷◌, ◌++◌}
use native.Mathlib.Numerals.{add-one}
use native.Mathlib.Omega.{arith}
use lib.ListN.{length}
use Rattle.netlist.specs.declared.Gate.{Gate}
use Rattle.netlist.specs.Table.{Tables, gate_at, gates_of}
use Rattle.netlist.specs.Eval.{bit}
use Rattle.fewest.specs.Fewest.{twice, twices}
use Rattle.fewest.proofs.Walking.{bit-most}

-- ---- the loop: the first i gates are counted

twices-append : (xs ys : List Gate) → twices (xs ++ ys) ≡ twices xs + twices ys
twices-append [] ys = omega arith
twices-append (x ∷ xs) ys = let h = twices-append xs ys in omega arith

pub twices-most : (gs : List Gate) → twices gs ≤ length gs
twices-most [] = omega arith
twices-most (g ∷ gs) = omega (arith, bit-most (twice g), twices-most gs)

pub record Counting (t : Tables) (i sum : ℕ) : Type 0 where
  pub so : sum ≡ twices (gates_of t i)
  pub most : sum ≤ i

pub counting_more : {t : Tables} {i sum r : ℕ} → Counting t i sum → r ≡ bit (twice (gate_at t i))
    → Counting t (i + 1) (sum + r)
counting_more {t} {i} {sum} {r} I e =
    let s = I.so in
    let m = bit-most (twice (gate_at t i)) in
    let o = I.most in
    record {
      so = rw add-one (let a = twices-append (gates_of t i) (gate_at t i ∷ []) in omega arith);
      most
          = omega arith;
    }
