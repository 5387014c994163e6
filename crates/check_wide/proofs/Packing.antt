-- The numbers of entries fit in twenty bits.
use Prim.Native.Nat.{ℕ, zero, suc}
use mathlib.Core.List.{List, []}
use native.Mathlib.Omega.{arith}
use Rattle.check_wide.specs.Packed.{three_of, Small}

pub small-none : Small []
small-none a = omega arith

pub small-three : (e : ℕ) (is : List ℕ) → Small is → Small (three_of e is)
small-three e is h zero = omega arith
small-three e is h (suc zero) = omega arith
small-three e is h (suc (suc zero)) = omega arith
small-three e is h (suc (suc (suc a))) = h a
