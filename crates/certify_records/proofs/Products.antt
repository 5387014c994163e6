-- The seven steps of a masked AND, for each two different codes: all records are there and have equal counts, and the
-- last is a masked bit.
use mathlib.Core.Bool.{Bool, true, false, not}
use Prim.Native.Nat.{ℕ, zero, suc}
use lib.Dec.{T, eqb}
use lib.Count.{count_trailing_zeros}
use native.Mathlib.Omega.{arith}
use Rattle.masking.specs.Mask.{is_code}
use Rattle.masking.proofs.CodeLaws.{code-most}
use Rattle.certify_records.proofs.Drawn.{product_tests}

product-12-false : T (product_tests 1 2 false)
unfolding count_trailing_zeros
product-12-false = tt

product-12-true : T (product_tests 1 2 true)
unfolding count_trailing_zeros
product-12-true = tt

product-13-false : T (product_tests 1 3 false)
unfolding count_trailing_zeros
product-13-false = tt

product-13-true : T (product_tests 1 3 true)
unfolding count_trailing_zeros
product-13-true = tt

product-21-false : T (product_tests 2 1 false)
unfolding count_trailing_zeros
product-21-false = tt

product-21-true : T (product_tests 2 1 true)
unfolding count_trailing_zeros
product-21-true = tt

product-23-false : T (product_tests 2 3 false)
unfolding count_trailing_zeros
product-23-false = tt

product-23-true : T (product_tests 2 3 true)
unfolding count_trailing_zeros
product-23-true = tt

product-31-false : T (product_tests 3 1 false)
unfolding count_trailing_zeros
product-31-false = tt

product-31-true : T (product_tests 3 1 true)
unfolding count_trailing_zeros
product-31-true = tt

product-32-false : T (product_tests 3 2 false)
unfolding count_trailing_zeros
product-32-false = tt

product-32-true : T (product_tests 3 2 true)
unfolding count_trailing_zeros
product-32-true = tt

pub products : (e f : ℕ) → T (is_code e) → T (is_code f) → T (not (eqb e f)) → (s : Bool) → T (product_tests e f s)
products zero f c d n s = absurd c
products (suc zero) zero c d n s = absurd d
products (suc zero) (suc zero) c d n s = absurd n
products (suc zero) (suc (suc zero)) c d n false = product-12-false
products (suc zero) (suc (suc zero)) c d n true = product-12-true
products (suc zero) (suc (suc (suc zero))) c d n false = product-13-false
products (suc zero) (suc (suc (suc zero))) c d n true = product-13-true
products (suc zero) (suc (suc (suc (suc f)))) c d n s = absurd (omega (arith, code-most (suc (suc (suc (suc f)))) d))
products (suc (suc zero)) zero c d n s = absurd d
products (suc (suc zero)) (suc zero) c d n false = product-21-false
products (suc (suc zero)) (suc zero) c d n true = product-21-true
products (suc (suc zero)) (suc (suc zero)) c d n s = absurd n
products (suc (suc zero)) (suc (suc (suc zero))) c d n false = product-23-false
products (suc (suc zero)) (suc (suc (suc zero))) c d n true = product-23-true
products (suc (suc zero)) (suc (suc (suc (suc f)))) c d n s = absurd
    (omega (arith, code-most (suc (suc (suc (suc f)))) d))
products (suc (suc (suc zero))) zero c d n s = absurd d
products (suc (suc (suc zero))) (suc zero) c d n false = product-31-false
products (suc (suc (suc zero))) (suc zero) c d n true = product-31-true
products (suc (suc (suc zero))) (suc (suc zero)) c d n false = product-32-false
products (suc (suc (suc zero))) (suc (suc zero)) c d n true = product-32-true
products (suc (suc (suc zero))) (suc (suc (suc zero))) c d n s = absurd n
products (suc (suc (suc zero))) (suc (suc (suc (suc f)))) c d n s
    = absurd (omega (arith, code-most (suc (suc (suc (suc f)))) d))
products (suc (suc (suc (suc e)))) f c d n s = absurd (omega (arith, code-most (suc (suc (suc (suc e)))) c))
