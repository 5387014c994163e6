-- What was stored after a text is written over.
use Prim.Native.Nat.{ℕ, suc, ◌+◌, ◌-◌, ◌*◌, ◌/◌, ◌%◌, ◌^◌, ◌≤◌, ◌<◌}
use mathlib.Core.Path.{◌≡◌, refl, sym, ap, ◌∙◌}
use mathlib.Core.List.{List, [], ◌∷◌, ◌++◌, append_assoc, append-nil}
use native.Mathlib.Nat.{le_of_suc-le-suc}
use native.Mathlib.Omega.{arith}
use lib.Pow.{shr-shr}
use Rattle.std.specs.Int.{to_le_bytes, w64}
use lib.ListN.{length, set, length-append}
use lib.Seq.{sets, set-set, set_comm}
use Rattle.writer.specs.Wrote.{Wrote, cap}
use Rattle.writer.proofs.Places.{sets-append}
use Rattle.writer.proofs.Writing.{wrote_as}
use Rattle.writer.specs.Packed.{bytes_of, text, packed}
use Rattle.writer.specs.Spilt.{Stored, Spilt}
use Rattle.writer.proofs.Packing.{length-bytes, text-most, text-least, text-long, spare, packed-bytes, packed-top}

-- an entry before a place is set before or after what is stored from that place on
set-sets : (l : List ℕ) (i j b : ℕ) (s : List ℕ) → i < j → set (sets l j s) i b ≡ sets (set l i b) j s
set-sets l i j b [] h = refl
set-sets l i j b (a ∷ s) h =
    set-sets (set l j a) i (suc j) b s (omega arith) ∙ ap (λ (k : List ℕ). sets k (suc j) s)
    (set_comm l j i a b (λ e. omega (arith, e)))

-- stored again from the same place on, and at least as far
sets_over : (l : List ℕ) (i : ℕ) (s v : List ℕ) → length s ≤ length v → sets (sets l i s) i v ≡ sets l i v
sets_over l i [] v h = refl
sets_over l i (a ∷ s) [] h = absurd (omega arith)
sets_over l i (a ∷ s) (b ∷ v) h =
    ap (λ (k : List ℕ). sets k (suc i) v) (set-sets (set l i a) i (suc i) b s (omega arith)
    ∙ ap (λ (k : List ℕ). sets k (suc i) s) (set-set l i a b))
    ∙ sets_over (set l i b) (suc i) s v (le_of_suc-le-suc h)

-- bytes after u, and then others over them
over : {e m x : List ℕ} {at r t q : ℕ} (u s v : List ℕ) → Wrote e at (u ++ s) m t → r ≡ at + length u → Wrote m r v x q
    → length s ≤ length v → Wrote e at (u ++ v) x q
over {e} {at = at} u s v a p b h = record {
  room = a.room;
  list =
      b.list
      ∙ (λ i. sets ((a.list ∙ sets-append e at u s) i) (p i) v)
      ∙ sets_over (sets e at u) (at + length u) s v h
      ∙ sym (sets-append e at u v);
  next = b.next ∙ ap cap (rw length-append (omega (arith, p)));
}

-- ---- texts one after the other

pub spilt-none : {e m u : List ℕ} {at r : ℕ} → Wrote e at u m r → at + length u ≤ length e → Spilt (length u) 0 e at u m
    r
spilt-none {u = u} {r = r} w h = record {
  rest = [];
  end = r;
  wrote = wrote_as (sym (append-nil u)) w;
  few = omega arith;
  spilt = omega arith;
  next = omega (arith, w.next, w.room);
}

-- a text of at most seven bytes, and at least 8 - k
pub spilt-then : {e m x u v : List ℕ} {at r s j l : ℕ} (k : ℕ) → Spilt j l e at u m r → Stored m r v x s → l ≤ 8
    → length v ≤ 7 → 8 ≤ k + length v
    → Spilt (j + 7) k e at (u ++ v) x s
spilt-then {u = u} {v = v} {r = r} k a b h f g = record {
  rest = b.rest;
  end = r + 8;
  wrote = wrote_as (sym (append_assoc u v b.rest)) (over u a.rest (v ++ b.rest) a.wrote a.next b.wrote
      (simp length-append (omega (arith, a.spilt, b.eight))));
  few = simp length-append (omega (arith, a.few));
  spilt = omega (arith, b.eight);
  next = simp length-append (omega (arith, a.next, b.next));
}

pub spilt-as : {e x u v : List ℕ} {at r j k : ℕ} → u ≡ v → Spilt j k e at u x r → Spilt j k e at v x r
spilt-as p w = rw p at w

-- no more than that
pub spilt-most : {e x u : List ℕ} {at r i l : ℕ} (j k : ℕ) → i ≤ j → l ≤ k → Spilt i l e at u x r → Spilt j k e at u x r
spilt-most j k p q w = record {
  rest = w.rest;
  end = w.end;
  wrote = w.wrote;
  few = omega (arith, w.few);
  spilt = omega (arith, w.spilt);
  next = w.next;
}

-- the text of an operand, and that of a result, whose name has four bytes
pub spilt-operand : {e m x u : List ℕ} {at r s j l : ℕ} (n : ℕ) → n < 1000000 → Spilt j l e at u m r
    → Stored m r (text n) x s → l ≤ 8
    → Spilt (j + 7) 6 e at (u ++ text n) x s
spilt-operand n h a b l = spilt-then 6 a b l (text-most n h) (omega (arith, text-least n h))

pub spilt-result : {e m x u : List ℕ} {at r s j l : ℕ} (n : ℕ) → 100 ≤ n → n < 1000000 → Spilt j l e at u m r
    → Stored m r (text n) x s → l ≤ 8
    → Spilt (j + 7) 4 e at (u ++ text n) x s
spilt-result n g h a b l = spilt-then 4 a b l (text-most n h) (omega (arith, text-long n g h))

-- and at last bytes that cover what is after
pub spilt-all : {e m x u v : List ℕ} {at r s j k : ℕ} → Spilt j k e at u m r → Wrote m r v x s → k ≤ length v
    → Wrote e at (u ++ v) x s
spilt-all {u = u} {v = v} a b h = over u a.rest v a.wrote a.next b (omega (arith, a.spilt))

-- ---- a word

-- the eight bytes of a word
pub eight-bytes : (w : ℕ) → to_le_bytes w64 w ≡ bytes_of 8 w
eight-bytes w =
    let a = shr-shr w 8 8 in
    let b = ap (λ (x : ℕ). x / 2 ^ 8) a ∙ shr-shr w 16 8 in
    let c = ap (λ (x : ℕ). x / 2 ^ 8) b ∙ shr-shr w 24 8 in
    let d = ap (λ (x : ℕ). x / 2 ^ 8) c ∙ shr-shr w 32 8 in
    let e = ap (λ (x : ℕ). x / 2 ^ 8) d ∙ shr-shr w 40 8 in
    let f = ap (λ (x : ℕ). x / 2 ^ 8) e ∙ shr-shr w 48 8 in
    sym (λ i. (w % 256) ∷ (w / 256 % 256) ∷ (a i % 256) ∷ (b i % 256) ∷ (c i % 256) ∷ (d i % 256) ∷ (e i % 256) ∷
    (f i % 256) ∷ [])

pub stored : {e x : List ℕ} {at r w : ℕ} (n : ℕ) → n < 1000000 → at + 8 ≤ length e → w ≡ packed n
    → Wrote e at (to_le_bytes w64 w) x r
    → Stored e at (text n) x (at + w / 72057594037927936)
unfolding spare
stored {at = at} {r = r} {w = w} n h l p v =
    let few = text-most n h in
    let whole : length (text n) + length (spare n) ≡ 8 = omega
    (arith, length-bytes (8 - length (text n)) (length (text n) * 2 ^ (56 - 8 * length (text n)))) in
    let q : r ≡ at + 8 = omega (arith, v.next, v.room) in
    let u = wrote_as (eight-bytes w ∙ ap (bytes_of 8) p ∙ packed-bytes n h) v in
    record {
      rest = spare n;
      wrote = rw q at u;
      eight = whole;
      least = text-least n h;
      next = ap (λ (m : ℕ). at + m) (ap (λ (x : ℕ). x / 72057594037927936) p ∙ packed-top n h);
    }
