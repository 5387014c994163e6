-- From a table of a wire's bits to its polynomial, and what it says.
use mathlib.Core.Path.{◌≡◌, ap, ◌∙◌}
use mathlib.Core.Bool.{true}
use mathlib.Core.List.{List}
use Prim.Native.Nat.{ℕ, ◌^◌, ◌<◌}
use native.Mathlib.Omega.{arith}
use lib.ListN.{length, get_or}
use Rattle.netlist.specs.Netlist.{Netlist}
use Rattle.netlist.specs.Eval.{bit}
use Rattle.netlist.specs.Services.{is_one}
use Rattle.causes.proofs.Judging.{length-up_to, up_to-at, up_to-is}
use Rattle.explain.specs.Polynomial.{value, coefficients}
use Rattle.explain.specs.Table.{Bits}
use Rattle.explain.specs.Wire.{wire_bit, variables, polynomial}
use Rattle.explain.proofs.Adding.{bit-one}
use Rattle.explain.proofs.Values.{value-same, value-coefficients}

module _ (N : Netlist) (codes : List ℕ) (w : ℕ) where
  pub length-polynomial : length (polynomial N codes w) ≡ 2 ^ variables codes
  unfolding polynomial
  length-polynomial = length-up_to (2 ^ variables codes) _

  pub polynomial-law : (T : List ℕ) → length T ≡ 2 ^ variables codes
      → Bits (coefficients (variables codes) (wire_bit N true codes w)) T → T ≡ polynomial N codes w
  unfolding polynomial
  polynomial-law T long h = up_to-is (2 ^ variables codes) _ T long (λ i l. h i (omega arith))

  -- its value is the wire's bit
  pub polynomial-value : (t : ℕ) → t < 2 ^ variables codes
      → value (variables codes) (λ m. is_one (get_or (polynomial N codes w) m 0)) t ≡ wire_bit N true codes w t
  unfolding polynomial
  polynomial-value t l =
      let c = coefficients (variables codes) (wire_bit N true codes w) in
      value-same (variables codes) _ c t
      (λ m k. ap is_one (up_to-at (2 ^ variables codes) (λ m. bit (c m)) m k) ∙ bit-one (c m))
      ∙ value-coefficients (variables codes) (wire_bit N true codes w) t l
