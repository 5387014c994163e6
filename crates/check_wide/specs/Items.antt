-- Wires and pairs as items that a run of all gates serves.
use Rattle.std.specs.Prelude.{ℕ, ◌+◌, ◌-◌, ◌*◌, ◌/◌, ◌≤◌, ◌<◌, Bool, true, cond, not, List, ◌⊎◌, ◌≡◌, eqb, ltb, length}
use Rattle.std.specs.Prelude.{get_or}
use Rattle.check_wide.specs.Rule.{Different}
use Rattle.check_wide.specs.Sets.{merge}
use Rattle.check_wide.specs.PaintColours.{Kept}
use Rattle.check_wide.specs.Packed.{Sets, set_at}

-- the set of pair j
abbrev pub pair_at : Sets → List ℕ → ℕ → List ℕ
pair_at S ws j = merge (set_at S (get_or ws (2 * j) 0)) (set_at S (get_or ws (2 * j + 1) 0))

-- the set of item k: of wire k, or of pair k - W
abbrev pub item_set : Sets → List ℕ → ℕ → ℕ → List ℕ
item_set S ws W k = cond (ltb k W) (set_at S k) (pair_at S ws (k - W))

-- at most twelve inputs reach each pair
abbrev pub PairsFew : Sets → List ℕ → Type 0
PairsFew S ws = (j : ℕ) → j < length ws / 2 → length (pair_at S ws j) ≤ 12

-- a mark is set
abbrev pub is_marked : List ℕ → ℕ → Bool
is_marked marks x = not (eqb (get_or marks x 0) 0)

-- items from `start` on were given colours: what was newly marked has different ones
pub record Serving (S : Sets) (ws : List ℕ) (W start : ℕ) (marks marks' ps ps' : List ℕ) : Type 0 where
  pub kept : Kept ps ps'
  pub each : (x : ℕ) → is_marked marks' x ≡ true → (is_marked marks x ≡ true) ⊎ Different (item_set S ws W (start + x))
      ps'
