-- Two rising lists put together, number by number.
use Rattle.std.specs.Prelude.{ℕ, ◌+◌, ◌≤◌, ◌<◌, List, [], ◌∷◌, ◌≡◌, Option, Some, None, length, take}
use Rattle.check_wide.specs.Sets.{merge, members_end}
use Rattle.check_wide.specs.Packed.{Small}
use Rattle.check_wide.specs.declared.members.InputSet.{InputSet}
use Rattle.check_wide.specs.declared.unite.Head.{Head}

-- the first number of both lists together, and what is left of each
pub record Next (x y : List ℕ) (h : Head) : Type 0 where
  pub shorter : length h.first.now + length h.second.now < length x + length y
  pub value_small : Small x → Small y → h.value < members_end
  pub left_small : Small x → Small h.first.now
  pub right_small : Small y → Small h.second.now
  pub value : merge x y ≡ h.value ∷ merge h.first.now h.second.now

-- so unless they have none
abbrev pub Begins : List ℕ → List ℕ → Option Head → Type 0
Begins x y (Some h) = Next x y h
Begins x y None = merge x y ≡ []

-- all numbers stand at the front of a list, or are more than it can hold
abbrev pub Unites : List ℕ → List ℕ → List ℕ → Option ℕ → Type 0
Unites x y out (Some k) = (k ≤ length out) × (take k out ≡ merge x y)
Unites x y out None = length out < length (merge x y)

-- a set has all numbers of two lists, or they are more than twelve
abbrev pub Together : List ℕ → List ℕ → Option InputSet → Type 0
Together x y (Some m) = take m.count m.items ≡ merge x y
Together x y None = 12 < length (merge x y)
