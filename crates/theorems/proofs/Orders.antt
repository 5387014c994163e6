-- The orders and shortcuts that break masking, computed over all codes and bits.
use Prim.Native.Nat.{ℕ, ◌+◌}
use mathlib.Core.Path.{◌≡◌, refl}
use mathlib.Core.Bool.{Bool, true, false, cond, not, ◌&&◌}
use mathlib.Core.List.{[], ◌∷◌}
use mathlib.Core.Option.{some}
use lib.Dec.{T, T_not, eqb, eqb→eq}
use Rattle.netlist.specs.Eval.{differs, wire_bits}
use Rattle.masking.specs.Mask.{is_code, rows}
use Rattle.masking.specs.Leak.{mask_of, count, count_at, leak}
use Rattle.netlist.proofs.Tests.{pair}
use Rattle.netlist.proofs.EachNumber.{every_bit, every_bit-at, every4, same}
use Rattle.masking.proofs.CodeLaws.{every_code, every_code-at, every_two, every_two-at}
use Rattle.theorems.specs.Orders.{step_bit, step_count, or_last, products_first, masked_again, ForTwoCodes, OrdersBreak}

-- a test that holds of every bit
every_bit-in : (p : Bool → Bool) → ((b : Bool) → T (p b)) → T (every_bit p)
every_bit-in p h = pair (p false) (p true) (h false) (h true)

same-in : (a b : Bool) → a ≡ b → T (same a b)
same-in true b e = rw (← e) tt
same-in false b e = rw (← e) tt

-- counts of two bits, from a test of all of them
two-bits : (f g : Bool → Bool → ℕ) → T (every_bit λ a. every_bit λ b. eqb (f a b) (g a b))
    → (a b : Bool) → f a b ≡ g a b
two-bits f g t a b =
    eqb→eq _ _ (every_bit-at (λ b. eqb (f a b) (g a b)) (every_bit-at (λ a. every_bit λ b. eqb (f a b) (g a b)) t a) b)

last-joined : ForTwoCodes λ e f. (a b : Bool) → step_count or_last 5 e f a b ≡ cond (a && b) 3 1
last-joined e f c d n =
    two-bits (step_count or_last 5 e f) (λ a b. cond (a && b) 3 1)
    (every_two-at (λ e f. every_bit λ a. every_bit λ b. eqb (step_count or_last 5 e f a b) (cond (a && b) 3 1)) tt e f c
    d n)

first-joined : ForTwoCodes λ e f. (a b : Bool) → step_count products_first 4 e f a b ≡ cond a 2 0
first-joined e f c d n =
    two-bits (step_count products_first 4 e f) (λ a b. cond a 2 0)
    (every_two-at (λ e f. every_bit λ a. every_bit λ b. eqb (step_count products_first 4 e f a b) (cond a 2 0)) tt e f c
    d n)

itself : (e : ℕ) → T (is_code e) → (a : Bool) → step_count rows 1 e e a a ≡ cond a 0 2
itself e c a =
    eqb→eq _ _ (every_bit-at (λ a. eqb (step_count rows 1 e e a a) (cond a 0 2))
    (every_code-at (λ e. every_bit λ a. eqb (step_count rows 1 e e a a) (cond a 0 2)) tt e c) a)

-- the product under the second operand's code, in every setting
right : ℕ → ℕ → Bool
right e f = every4 λ a b m0 m1. same (differs (step_bit rows 6 e f a b m0 m1) (mask_of m0 m1 f)) (a && b)

wrong : ForTwoCodes λ e f. T (not (right e f))
unfolding right
wrong = every_two-at (λ e f. not (every4 λ a b m0 m1. same (differs (step_bit rows 6 e f a b m0 m1) (mask_of m0 m1 f))
    (a && b))) tt

second-wrong : ForTwoCodes λ e f. ((a b m0 m1 : Bool) → differs (step_bit rows 6 e f a b m0 m1) (mask_of m0 m1 f)
    ≡ a && b) → ⊥
unfolding right
second-wrong e f c d n h =
    let p : Bool → Bool → Bool → Bool → Bool =
    λ a b m0 m1. same (differs (step_bit rows 6 e f a b m0 m1) (mask_of m0 m1 f)) (a && b) in
    absurd (T_not (right e f) (wrong e f c d n)
    (every_bit-in (λ a. every_bit λ b. every_bit λ m0. every_bit (p a b m0))
    λ a. every_bit-in (λ b. every_bit λ m0. every_bit (p a b m0))
    λ b. every_bit-in (λ m0. every_bit (p a b m0))
    λ m0. every_bit-in (p a b m0)
    λ m1. same-in _ _ (h a b m0 m1)))

leaks-inside : leak masked_again (1 ∷ []) ≡ some (record { wire = 3; at = 1; base = 0; own = 4 })
unfolding leak count wire_bits
leaks-inside = refl

same-output : count_at masked_again (1 ∷ []) 4 0 ≡ count_at masked_again (1 ∷ []) 4 1
unfolding count wire_bits
same-output = refl

same-sums : count_at masked_again (1 ∷ []) 3 0 + count_at masked_again (1 ∷ []) 3 1
    ≡ count_at masked_again (1 ∷ []) 0 0 + count_at masked_again (1 ∷ []) 0 1
unfolding count wire_bits
same-sums = refl

pub orders-break : OrdersBreak
orders-break = record {
  or_joined_last = last-joined;
  products_joined = first-joined;
  same_wire = itself;
  second_code = second-wrong;
  inner_leak = leaks-inside;
  output_counts = same-output;
  added_counts = same-sums;
}
