-- Items, and the sets of inputs that reach them.
use Prim.Native.Nat.{ℕ, ◌-◌, ◌≤◌, ◌<◌}
use mathlib.Core.Path.{◌≡◌, ap}
use mathlib.Core.Bool.{Bool, cond}
use mathlib.Core.List.{List}
use borrow.Author.Tests.{lt-ltb, le-ltb}
use Rattle.check_wide.specs.Packed.{Sets, set_at}
use Rattle.check_wide.specs.Items.{pair_at, item_set}

module _ (S : Sets) (ws : List ℕ) (W k : ℕ) where
  pub item-wire : k < W → item_set S ws W k ≡ set_at S k
  item-wire l = ap (λ (b : Bool). cond b (set_at S k) (pair_at S ws (k - W))) (lt-ltb k W l)

  pub item-pair : W ≤ k → item_set S ws W k ≡ pair_at S ws (k - W)
  item-pair l = ap (λ (b : Bool). cond b (set_at S k) (pair_at S ws (k - W))) (le-ltb k W l)
