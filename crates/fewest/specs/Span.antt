-- How many choices share their first places.
use Rattle.std.specs.Prelude.{ℕ, zero, suc, ◌*◌, ◌-◌, ◌^◌, ◌<◌, List, ◌≡◌, length, get_or}

-- the ways of k places from p on, all together
abbrev pub span_of : (ℕ → ℕ) → ℕ → ℕ → ℕ
span_of w p zero = 1
span_of w p (suc k) = w p * span_of w (suc p) k

-- the largest entry stands for itself and all above
abbrev pub most : ℕ
most = 2 ^ 64 - 1

abbrev pub capped : ℕ → ℕ
capped x = x - (x - most)

-- the table has for each of P places how many choices share the places up to it
pub record Spanned (w : ℕ → ℕ) (P : ℕ) (s₀ s : List ℕ) : Type 0 where
  pub each : (p : ℕ) → p < P → get_or s p 0 ≡ capped (span_of w (suc p) (P - suc p))
  pub size : length s ≡ length s₀
