-- Polynomials over bits: a sum of products of variables.
use Rattle.std.specs.Prelude.{ℕ, zero, suc, ◌+◌, ◌-◌, ◌^◌, Bool, ◌&&◌}
use Rattle.netlist.specs.Eval.{differs}
use Rattle.evaluate.specs.Lane.{lane}

-- the value of a polynomial in v variables where variable i is bit i of a number: coefficient m is that of the product
-- of the variables whose bits are one in m. A variable more splits it in the products without it and those with it
abbrev pub value : ℕ → (ℕ → Bool) → ℕ → Bool
value zero c n = c 0
value (suc v) c n = differs (value v c n) (lane v n && value v (λ m. c (2 ^ v + m)) n)

-- a function of numbers, where bit v is one added to where it is zero
abbrev pub added : ℕ → (ℕ → Bool) → ℕ → Bool
added v f m = differs (f m) (lane v m && f (m - 2 ^ v))

-- the coefficients of a function of v variables
abbrev pub coefficients : ℕ → (ℕ → Bool) → ℕ → Bool
coefficients zero f = f
coefficients (suc v) f = added v (coefficients v f)
