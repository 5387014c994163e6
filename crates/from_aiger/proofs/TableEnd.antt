-- A table whose end keeps literals, and whose front gets gates.
use Prim.Native.Nat.{ℕ, ◌-◌, ◌≤◌}
use mathlib.Core.Path.{◌≡◌, ap, ◌∙◌}
use mathlib.Core.List.{List, ◌++◌, append-nil}
use native.Mathlib.Omega.{arith}
use lib.ListN.{length, take, drop}
use lib.Seq.{length-take-le, drop-length, drop_at, take_at}
use borrow.Rule.Slice.PartMut.{mid_of, post_of, put_mid, same_len_mid, Post-is, mid_len}

module _ (r kept : List ℕ) (room : ℕ) (inside : room ≤ length r)
    (long : length kept ≡ length (mid_of room (length r - room) r)) where
  -- the table with the literals at its end
  abbrev end : List ℕ
  end = put_mid room (length r - room) r kept

  pub kept-long : length kept ≡ length r - room
  kept-long = long ∙ mid_len room (length r) r (omega arith)

  pub end-long : length end ≡ length r
  end-long = same_len_mid room (length r - room) r kept long

  end_kept : drop room end ≡ kept
  end_kept =
      drop_at (take room r) (kept ++ post_of room (length r - room) r) room (length-take-le room r inside)
      ∙ ap (λ (xs : List ℕ). kept ++ xs) (Post-is room (length r) r inside ∙ drop-length r) ∙ append-nil kept

  module _ (front : List ℕ) (same : length front ≡ length (take room end)) where
    pub front_long : length front ≡ room
    front_long = same ∙ length-take-le room end (let l = end-long in omega arith)

    -- the end is as it was
    pub both-kept : drop room (front ++ drop room end) ≡ kept
    both-kept = drop_at front (drop room end) room front_long ∙ end_kept

    -- and the front what it got
    pub both-front : take room (front ++ drop room end) ≡ front
    both-front = take_at front (drop room end) room front_long
