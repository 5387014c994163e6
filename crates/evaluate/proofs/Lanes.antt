-- The lanes of the bit operations.
use mathlib.Core.Path.{◌≡◌, refl, sym, ap, ◌∙◌}
use mathlib.Core.Bool.{Bool, true, false, ◌&&◌}
use Prim.Native.Nat.{ℕ, zero, suc, ◌+◌, ◌*◌, ◌/◌, ◌%◌, ◌^◌, ◌<◌, min}
use native.Mathlib.Omega.{arith}
use lib.Dec.{T, eqb, ltb, ltb→lt}
use lib.Bits.{bit_and, bit_xor, differ, and_step, xor_step, and_mask}
use lib.Pow.{shr-shr}
use mir.Val.{bool_byte}
use Rattle.netlist.specs.Eval.{differs, bit}
use Rattle.netlist.specs.Lists.{below}
use Rattle.netlist.proofs.Tests.{both}
use Rattle.evaluate.specs.Lane.{lane}
use Rattle.netlist.proofs.EachNumber.{below_at, same, same-eq}

-- an operation on words that works digit by digit, as f does on digits and g on bits
module _ (op f : ℕ → ℕ → ℕ) (g : Bool → Bool → Bool)
    (step : (a b : ℕ) → op a b ≡ op (a / 2) (b / 2) * 2 + f (a % 2) (b % 2))
    (agree : T (below 2 (λ x. below 2 (λ y. ltb (f x y) 2 && same (eqb (f x y) 1) (g (eqb x 1) (eqb y 1)))))) where
  digits : (a b : ℕ) → (f (a % 2) (b % 2) < 2) × (eqb (f (a % 2) (b % 2)) 1 ≡ g (lane 0 a) (lane 0 b))
  digits a b =
      let x = a % 2 in
      let y = b % 2 in
      let row = below_at 2 (λ x. below 2 (λ y. ltb (f x y) 2 && same (eqb (f x y) 1) (g (eqb x 1) (eqb y 1)))) agree x
      (omega arith) in
      let p = both (ltb (f x y) 2) (same (eqb (f x y) 1) (g (eqb x 1) (eqb y 1)))
      (below_at 2 (λ y. ltb (f x y) 2 && same (eqb (f x y) 1) (g (eqb x 1) (eqb y 1))) row y (omega arith)) in
      (ltb→lt (f x y) 2 p.0, same-eq (eqb (f x y) 1) (g (eqb x 1) (eqb y 1)) p.1)

  lane-op : (j a b : ℕ) → lane j (op a b) ≡ g (lane j a) (lane j b)
  lane-op zero a b =
      let s = step a b in
      let d = digits a b in
      let e : op a b % 2 ≡ f (a % 2) (b % 2) = omega arith in
      ap (λ (n : ℕ). eqb n 1) e ∙ d.1
  lane-op (suc j) a b =
      let s = step a b in
      let d = digits a b in
      let e : op a b / 2 ≡ op (a / 2) (b / 2) = omega arith in
      ap (lane j) e ∙ lane-op j (a / 2) (b / 2)

pub lane_and : (j a b : ℕ) → lane j (bit_and a b) ≡ (lane j a && lane j b)
lane_and = lane-op bit_and min ◌&&◌ and_step tt

pub lane_xor : (j a b : ℕ) → lane j (bit_xor a b) ≡ differs (lane j a) (lane j b)
lane_xor = lane-op bit_xor differ differs xor_step tt

pub lane-zero : (j : ℕ) → lane j 0 ≡ false
lane-zero zero = refl
lane-zero (suc j) = lane-zero j

-- a test's value as the code has it
pub bool-bit : (b : Bool) → bool_byte b ≡ bit b
bool-bit true = refl
bool-bit false = refl

pub lane-bit : (b : Bool) → lane 0 (bit b) ≡ b
lane-bit true = refl
lane-bit false = refl

-- bit j of a number: by a shift
pub lane-shr : (j n : ℕ) → lane j n ≡ eqb (n / 2 ^ j % 2) 1
lane-shr zero n = let e : n ≡ n / 1 = omega arith in ap (λ (x : ℕ). eqb (x % 2) 1) e
lane-shr (suc j) n =
    let e : 1 + j ≡ suc j = omega arith in
    lane-shr j (n / 2) ∙ ap (λ (x : ℕ). eqb (x % 2) 1) (shr-shr n 1 j ∙ ap (λ (k : ℕ). n / 2 ^ k) e)

-- as a number
bit-of : (x : ℕ) → x < 2 → x ≡ bit (eqb x 1)
bit-of zero l = refl
bit-of (suc zero) l = refl
bit-of (suc (suc x)) l = absurd (omega arith)

pub bit-shr : (j n : ℕ) → n / 2 ^ j % 2 ≡ bit (lane j n)
bit-shr j n = bit-of (n / 2 ^ j % 2) (omega arith) ∙ ap bit (sym (lane-shr j n))

-- by a mask
pub bit-first : (n : ℕ) → bit_and n 1 ≡ bit (lane 0 n)
bit-first n = and_mask n 1 ∙ bit-of (n % 2) (omega arith)

pub bit-low : (j n : ℕ) → bit_and (n / 2 ^ j) 1 ≡ bit (lane j n)
bit-low j n = and_mask (n / 2 ^ j) 1 ∙ bit-shr j n
