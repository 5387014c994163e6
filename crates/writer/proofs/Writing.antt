-- Writing in steps.
use Prim.Native.Nat.{ℕ, ◌+◌, ◌-◌, ◌≤◌, ◌<◌}
use mathlib.Core.Path.{◌≡◌, refl, sym, ap, ap₂, ◌∙◌}
use mathlib.Core.List.{List, [], ◌∷◌, ◌++◌, append_assoc}
use native.Mathlib.Numerals.{add-one}
use native.Mathlib.Omega.{arith}
use lib.ListN.{length, get_or, take, drop, length-append}
use lib.Seq.{sets, length-sets, take-suc, take_at, sets-eq}
use borrow.Rule.Slice.PartMut.{put_mid, Post-is}
use Rattle.writer.specs.Wrote.{Wrote, WroteFew, top, cap}
use Rattle.writer.proofs.Places.{sets-out, sets-append, sets-cap}

-- nothing at all
pub wrote_none : (e : List ℕ) (at : ℕ) → length e ≤ top → at ≤ top → Wrote e at [] e at
wrote_none e at h k = record { room = h; list = refl; next = omega arith }

-- some bytes, and then more
pub wrote_then : {e m x u v : List ℕ} {at r s : ℕ} → Wrote e at u m r → Wrote m r v x s → Wrote e at (u ++ v) x s
wrote_then {e} {m} {x} {u} {v} {at} {r} {s} a b = record {
  room = a.room;
  list =
      b.list ∙ ap (λ (k : ℕ). sets m k v) a.next ∙ sets-cap m (at + length u) v b.room
      ∙ ap (λ (l : List ℕ). sets l (at + length u) v) a.list ∙ sym (sets-append e at u v);
  next = rw length-append (omega (arith, a.next, b.next));
}

-- the same bytes by another name
pub wrote_as : {e x u v : List ℕ} {at r : ℕ} → u ≡ v → Wrote e at u x r → Wrote e at v x r
wrote_as p w = rw p at w

-- past the end only the place moves
pub wrote-out : {e : List ℕ} {at r : ℕ} (bs : List ℕ) → length e ≤ top → length e ≤ at
    → r ≡ cap (at + length bs) → Wrote e at bs e r
wrote-out {e} {at} bs h k n = record { room = h; list = sym (sets-out e at bs k); next = n }

-- a buffer keeps its length
pub wrote-length : {e x u : List ℕ} {at r : ℕ} → Wrote e at u x r → length x ≡ length e
wrote-length {e} {x} {u} {at} w = ap length w.list ∙ length-sets e at u

-- the first i bytes of s were written
pub record Copied (e : List ℕ) (at : ℕ) (s x : List ℕ) (r i : ℕ) : Type 0 where
  pub passed : i ≤ length s
  pub wrote : Wrote e at (take i s) x r

pub copied_more : {e m x s : List ℕ} {at r t i : ℕ} → Copied e at s m r i → i < length s → Wrote m r (get_or s i 0 ∷ [])
    x t → Copied e at s x t (i + 1)
copied_more {s = s} {i = i} a h b = record {
  passed = omega arith;
  wrote = rw (add-one, take-suc s i 0)
      (wrote_then a.wrote b);
}

-- bytes copied over as many of a list that has them
pub wrote-copied : {e bs zs : List ℕ} {at n : ℕ} → length e ≤ top → at + n ≤ length e → length bs ≡ n → zs ≡ bs
    → Wrote e at bs (put_mid at (at + n - at) e zs) (at + n)
wrote-copied {e} {bs} {zs} {at} {n} h room long same = record {
  room = h;
  list =
      ap₂ (λ (z r : List ℕ). take at e ++ (z ++ r)) same
      (Post-is at (at + n) e (omega arith) ∙ ap (λ (k : ℕ). drop (at + k) e) (sym long))
      ∙ sym (append_assoc (take at e) bs (drop (at + length bs) e)) ∙ sym (sets-eq bs e at (omega (arith, long, room)));
  next = omega (arith, h, room, long);
}

-- as many bytes as they are
pub exactly : {e x u : List ℕ} {at r : ℕ} → Wrote e at u x r → WroteFew (length u) e at u x r
exactly w = record { wrote = w; few = omega arith }

-- few bytes, and then few more
pub few-then : {e m x u v : List ℕ} {at r s : ℕ} (j k : ℕ) → WroteFew j e at u m r → WroteFew k m r v x s
    → WroteFew (j + k) e at (u ++ v) x s
few-then j k a b = record { wrote = wrote_then a.wrote b.wrote; few = rw length-append (omega (arith, a.few, b.few)) }

-- what was written at the front of a buffer that holds it
pub wrote-front : {e x u : List ℕ} {r : ℕ} → Wrote e 0 u x r → length u ≤ length e → take r x ≡ u
wrote-front {e} {x} {u} {r} w h =
    let n : r ≡ length u = omega (arith, w.next, w.room) in
    ap (λ (l : List ℕ). take r l) (w.list ∙ sets-eq u e 0 (omega arith)) ∙ take_at u _ r (sym n)

-- the place after it
pub front-within : {e x u : List ℕ} {r : ℕ} → Wrote e 0 u x r → length u ≤ length e → r ≤ length x
front-within w h = omega (arith, w.next, wrote-length w)
