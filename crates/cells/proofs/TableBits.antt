-- A bit of a table that is made of others.
use Rattle.std.proofs.Common.{◌≡◌, ℕ, zero, suc, ◌+◌, ◌-◌, ◌%◌, ◌^◌, ◌<◌, true, false, not, ◌&&◌, ◌||◌, nat_eq, refl, ap, ◌∙◌, arith, min, max, bit_and}
use Rattle.std.specs.Int.{bit_at, bit_not, w64}
use Rattle.std.specs.Int.RustNames.{bit_or, bit_xor}
use Rattle.std.proofs.lemmas.Nat.Bits.{bit_at_and, bit_at_or, bit_at_xor, bit_at_not, bit_at_ones, bit_at-zero, bit_at-lt}
use Rattle.netlist.specs.Eval.{differs}
use Rattle.cells.specs.Tables.{table_bit}

sum_bit : (x y : ℕ) → x < 2 → y < 2 → nat_eq ((x + y) % 2) 1 ≡ differs (nat_eq x 1) (nat_eq y 1)
sum_bit zero zero a b = refl
sum_bit zero (suc zero) a b = refl
sum_bit (suc zero) zero a b = refl
sum_bit (suc zero) (suc zero) a b = refl
sum_bit zero (suc (suc y)) a b = absurd (omega arith)
sum_bit (suc zero) (suc (suc y)) a b = absurd (omega arith)
sum_bit (suc (suc x)) y a b = absurd (omega arith)

both_bit : (x y : ℕ) → x < 2 → y < 2 → nat_eq (min x y) 1 ≡ nat_eq x 1 && nat_eq y 1
both_bit zero zero a b = refl
both_bit zero (suc zero) a b = refl
both_bit (suc zero) zero a b = refl
both_bit (suc zero) (suc zero) a b = refl
both_bit zero (suc (suc y)) a b = absurd (omega arith)
both_bit (suc zero) (suc (suc y)) a b = absurd (omega arith)
both_bit (suc (suc x)) y a b = absurd (omega arith)

either_bit : (x y : ℕ) → x < 2 → y < 2 → nat_eq (max x y) 1 ≡ nat_eq x 1 || nat_eq y 1
either_bit zero zero a b = refl
either_bit zero (suc zero) a b = refl
either_bit (suc zero) zero a b = refl
either_bit (suc zero) (suc zero) a b = refl
either_bit zero (suc (suc y)) a b = absurd (omega arith)
either_bit (suc zero) (suc (suc y)) a b = absurd (omega arith)
either_bit (suc (suc x)) y a b = absurd (omega arith)

other_bit : (x : ℕ) → x < 2 → nat_eq (1 - x) 1 ≡ not (nat_eq x 1)
other_bit zero a = refl
other_bit (suc zero) a = refl
other_bit (suc (suc x)) a = absurd (omega arith)

pub table_bit_xor : (s t j : ℕ) → table_bit (bit_xor s t) j ≡ differs (table_bit s j) (table_bit t j)
unfolding table_bit
table_bit_xor s t j = ap (λ n. nat_eq n 1) (bit_at_xor s t j) ∙ sum_bit (bit_at s j) (bit_at t j) (bit_at-lt s j) (bit_at-lt t j)

pub table_bit_and : (s t j : ℕ) → table_bit (bit_and s t) j ≡ table_bit s j && table_bit t j
unfolding table_bit
table_bit_and s t j = ap (λ n. nat_eq n 1) (bit_at_and s t j) ∙ both_bit (bit_at s j) (bit_at t j) (bit_at-lt s j) (bit_at-lt t j)

pub table_bit_or : (s t j : ℕ) → table_bit (bit_or s t) j ≡ table_bit s j || table_bit t j
unfolding table_bit
table_bit_or s t j = ap (λ n. nat_eq n 1) (bit_at_or s t j) ∙ either_bit (bit_at s j) (bit_at t j) (bit_at-lt s j) (bit_at-lt t j)

pub table_bit_not : (t j : ℕ) → t < 2 ^ 64 → j < 64 → table_bit (bit_not w64 t) j ≡ not (table_bit t j)
unfolding table_bit
table_bit_not t j f l = ap (λ n. nat_eq n 1) (bit_at_not w64 t j f l) ∙ other_bit (bit_at t j) (bit_at-lt t j)

pub table_bit_always : (j : ℕ) → j < 64 → table_bit 0xffff_ffff_ffff_ffff j ≡ true
unfolding table_bit
table_bit_always j l = ap (λ n. nat_eq n 1) (bit_at_ones 64 j l)

pub table_bit_never : (j : ℕ) → table_bit 0 j ≡ false
unfolding table_bit
table_bit_never j = ap (λ n. nat_eq n 1) (bit_at-zero j)
