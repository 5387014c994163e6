-- A number is below 10 ^ max_digits.
use Prim.Native.Nat.{ℕ, suc, ◌+◌, ◌-◌, ◌*◌, ◌^◌, ◌<◌, ◌≤◌}
use mathlib.Core.Path.{◌≡◌}
use mathlib.Core.Bool.{true, ◌&&◌}
use mathlib.Core.List.{List, [], ◌∷◌}
use mathlib.Core.Option.{some}
use native.Mathlib.Omega.{arith}
use native.Mathlib.Nat.{lt_of_lt_of_le, pow-suc, pow-le-pow_right}
use lib.Dec.{leb, leb→le, lit<}
use lib.ListN.{length}
use Rattle.netlist.specs.Number.{is_digit, all_digits, value_from, no_leading_zero, max_digits, number}
use Rattle.netlist.proofs.Tests.{both, is_true, both_true}
use Rattle.netlist.proofs.Questions.{cond-some}
use Rattle.text.proofs.Numbers.{digit-range}

value-below : (w : List ℕ) (v k : ℕ) → all_digits w ≡ true → v < 10 ^ k → value_from v w < 10 ^ (k + length w)
value-below [] v k d h = let z : k + 0 ≡ k = omega arith in rw z h
value-below (b ∷ w) v k d h =
    let p = both_true (is_digit b) (all_digits w) d in
    let r = digit-range b p.0 in
    let z : k + suc (length w) ≡ suc k + length w = omega arith in
    rw z (value-below w (v * 10 + (b - 48)) (suc k) p.1 (omega (arith, pow-suc 10 k, r.0, r.1)))

pub number-below : (w : List ℕ) (v : ℕ) → number w ≡ some v → v < 10 ^ max_digits
unfolding number
number-below w v e =
    let p = cond-some (all_digits w && no_leading_zero w && leb (length w) max_digits) (value_from 0 w) v e in
    let q = both (all_digits w && no_leading_zero w) (leb (length w) max_digits) p.0 in
    let d = is_true (all_digits w) (both (all_digits w) (no_leading_zero w) q.0).0 in
    let b : value_from 0 w < 10 ^ (0 + length w) = value-below w 0 0 d (lit< tt) in
    let l = leb→le (length w) max_digits q.1 in
    let m : 0 + length w ≤ max_digits = omega arith in
    rw p.1 at (lt_of_lt_of_le b (pow-le-pow_right (lit< tt) m))
