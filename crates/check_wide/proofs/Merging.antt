-- Two lists being put together: what was written, and what is left.
use Prim.Native.Nat.{ℕ, ◌≤◌}
use mathlib.Core.Path.{◌≡◌}
use mathlib.Core.List.{List, ◌++◌}
use lib.ListN.{length, take}
use Rattle.check_wide.specs.Sets.{merge}
use Rattle.check_wide.specs.Packed.{Small}

pub record Merging (x₀ y₀ out₀ x y out : List ℕ) (k : ℕ) : Type 0 where
  pub passed : k ≤ length out
  pub long : length out ≡ length out₀
  pub small_left : Small x₀ → Small x
  pub small_right : Small y₀ → Small y
  pub small : Small x₀ → Small y₀ → Small out₀ → Small out
  pub value : merge x₀ y₀ ≡ take k out ++ merge x y
