-- The codes of the inputs for a try, in a table.
use Rattle.std.specs.Prelude.{ℕ, ◌+◌, ◌%◌, ◌≤◌, ◌<◌, cond, List, ◌≡◌, length, get_or}
use Rattle.masking.specs.Mask.{is_public}
use Rattle.fewest.specs.Choice.{is_free}

-- the code of a masked input, by its way where it is free; a way below 3 is kept by the remainder
abbrev pub free_code : ℕ → ℕ → ℕ
free_code e d = cond (is_free e) (d % 4 + 1) e

-- the code of an input: 1 for a public bit
abbrev pub way_code : ℕ → ℕ → ℕ
way_code e d = cond (is_public e) 1 (free_code e d)

-- of the first i inputs what f makes of their codes and ways; the entries after are kept
pub record FilledBy (f : ℕ → ℕ → ℕ) (codes way : List ℕ) (i : ℕ) (u₀ u : List ℕ) : Type 0 where
  pub filled : (w : ℕ) → w < i → get_or u w 0 ≡ f (get_or codes w 0) (get_or way w 0)
  pub kept : (w : ℕ) → i ≤ w → get_or u w 0 ≡ get_or u₀ w 0
  pub size : length u ≡ length u₀

-- the codes of the first i inputs
abbrev pub Filled : List ℕ → List ℕ → ℕ → List ℕ → List ℕ → Type 0
Filled codes way i u₀ u = FilledBy way_code codes way i u₀ u
