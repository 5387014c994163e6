-- The lowest wire, then the smallest setting, with another count than its base.
use Rattle.std.specs.Prelude.{ℕ, ◌+◌, ◌<◌, ◌≢◌, ◌≡◌, Option, Some, None}
use Rattle.leak_search.specs.Block.{Agree}
use Rattle.leak_search.specs.declared.difference.Leak.{Leak}

-- of settings below S, a leak's is the first whose count g on its wire differs from its base's count f, and it holds
-- both
pub record Differing (f g : ℕ → ℕ → ℕ) (S : ℕ) (p : Leak ℕ) : Type 0 where
  pub inside : p.setting < S
  pub smaller : (s : ℕ) → s < p.setting → f p.wire s ≡ g p.wire s
  pub other : f p.wire p.setting ≢ g p.wire p.setting
  pub base : p.base ≡ f p.wire p.setting
  pub own : p.own ≡ g p.wire p.setting

-- a leak's wire; W where there is none
abbrev pub wire_of : ℕ → Option (Leak ℕ) → ℕ
wire_of W None = W
wire_of W (Some p) = p.wire

-- of wires below W, a leak's is the first with such a setting; where there is none, no wire has one
pub record LowestDifference (f g : ℕ → ℕ → ℕ) (W S : ℕ) (found : Option (Leak ℕ)) : Type 0 where
  pub lower : Agree f g (wire_of W found) S
  pub inside : (p : Leak ℕ) → found ≡ Some p → p.wire < W
  pub differs : (p : Leak ℕ) → found ≡ Some p → Differing f g S p

-- counts from setting S on
abbrev pub from : ℕ → (ℕ → ℕ → ℕ) → ℕ → ℕ → ℕ
from S f w s = f w (S + s)

-- blocks are fewer: twenty input bits have so many blocks of sixteen settings, and no search goes over as many bits
abbrev pub max_blocks : ℕ
max_blocks = 65536
