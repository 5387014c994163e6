-- The tests of masked bits, one at a time.
use mathlib.Core.Bool.{Bool, not, ◌&&◌}
use Prim.Native.Nat.{ℕ}
use lib.Dec.{T, eqb}
use Rattle.masking.specs.Mask.{is_code}
use Rattle.netlist.proofs.Tests.{both}
use Rattle.netlist.proofs.EachNumber.{every_bit, every_bit-at}
use Rattle.masking.proofs.CodeLaws.{every_code-at, every_two-at}
use Rattle.certify_records.proofs.Drawn.{Spot, lower, higher, nowhere, every_spot, sum_test, sums, copy_test, copies}
use Rattle.certify_records.proofs.Drawn.{and_test}
use Rattle.certify_records.proofs.Products.{products}

every_spot-at : (p : Spot → Bool) → T (every_spot p) → (x : Spot) → T (p x)
every_spot-at p t lower = (both (p lower) (p higher && p nowhere) t).0
every_spot-at p t higher = (both (p higher) (p nowhere) (both (p lower) (p higher && p nowhere) t).1).0
every_spot-at p t nowhere = (both (p higher) (p nowhere) (both (p lower) (p higher && p nowhere) t).1).1

pub sum-at : (e f : ℕ) → T (is_code e) → T (is_code f) → T (not (eqb e f)) → (s t : Bool) (x y : Spot)
    → T (sum_test e f s t x y)
sum-at e f c d n s t x y =
    let a = every_two-at (λ e f. every_bit λ s. every_bit λ t. every_spot λ x. every_spot λ y. sum_test e f s t x y)
    sums e f c d n in
    let b = every_bit-at (λ s. every_bit λ t. every_spot λ x. every_spot λ y. sum_test e f s t x y) a s in
    let g = every_bit-at (λ t. every_spot λ x. every_spot λ y. sum_test e f s t x y) b t in
    every_spot-at (sum_test e f s t x) (every_spot-at (λ x. every_spot λ y. sum_test e f s t x y) g x) y

pub copy-at : (e : ℕ) → T (is_code e) → (s : Bool) (x : Spot) → T (copy_test e s x)
copy-at e c s x =
    let a = every_code-at (λ e. every_bit λ s. every_spot λ x. copy_test e s x) copies e c in
    every_spot-at (copy_test e s) (every_bit-at (λ s. every_spot λ x. copy_test e s x) a s) x

pub product-at : (e f : ℕ) → T (is_code e) → T (is_code f) → T (not (eqb e f)) → (s t : Bool) (x y : Spot)
    → T (and_test e f s t x y)
product-at e f c d n s t x y =
    let g = every_bit-at (λ t. every_spot λ x. every_spot λ y. and_test e f s t x y) (products e f c d n s) t in
    every_spot-at (and_test e f s t x) (every_spot-at (λ x. every_spot λ y. and_test e f s t x y) g x) y
