-- A scan: the loop that goes on while the byte passes a test.
use Prim.Native.Nat.{ℕ, ◌+◌, ◌-◌, ◌<◌, ◌≤◌}
use mathlib.Core.Path.{◌≡◌, refl, sym, ap, ◌∙◌, subst}
use mathlib.Core.Bool.{Bool, true, false, cond, ◌||◌, not}
use mathlib.Core.List.{List, [], ◌∷◌, ◌++◌}
use native.Mathlib.Numerals.{add-one}
use native.Mathlib.Omega.{arith}
use lib.ListN.{length, take, drop, get_or, length-append, length-drop, drop_of_length-le}
use Rattle.std.proofs.lemmas.List.{get_or-drop}
use lib.Seq.{drop-cons, take_at, take_all, drop-drop}
use Rattle.netlist.specs.Text.{is_space, is_line_end}
use Rattle.netlist.proofs.Tests.{clash}
use Rattle.text.specs.Line.{in_word, take_while, drop_while, next_word, past_word, Scanned, ThreeBytes, WordAt}

-- a scan on its way
pub record Scanning (p : ℕ → Bool) (t : List ℕ) (from i : ℕ) : Type 0 where
  pub same : drop_while p (drop i t) ≡ drop_while p (drop from t)
  pub on : from ≤ i
  pub within : i ≤ length t

module _ (p : ℕ → Bool) (t : List ℕ) where
  pub scan-start : (i : ℕ) → i ≤ length t → Scanning p t i i
  scan-start i h = record { same = refl; on = omega arith; within = h }

  pub scan-on : (from i : ℕ) → i < length t → p (get_or t i 0) ≡ true → Scanning p t from i → Scanning p t from (i + 1)
  scan-on from i h e s =
      let k : drop_while p (drop i t) ≡ drop_while p (drop (i + 1) t) = rw (add-one, drop-cons t i 0) (rw e) in
      record { same = sym k ∙ s.same; on = omega arith; within = omega arith }

  pub scan-stop : (from i : ℕ) → i < length t → p (get_or t i 0) ≡ false → Scanning p t from i → Scanned p t from i
  scan-stop from i h e s =
      let k : drop_while p (drop i t) ≡ drop i t = rw (drop-cons t i 0) (rw e) in
      record { left = sym k ∙ s.same; on = s.on; within = s.within }

  -- the text ends
  pub scan-end : (from i : ℕ) → length t ≤ i → Scanning p t from i → Scanned p t from i
  scan-end from i h s =
      let k : drop_while p (drop i t) ≡ drop i t = rw (drop_of_length-le t h) in
      record { left = sym k ∙ s.same; on = s.on; within = s.within }

  -- the loop went to the text's end
  pub scanned_all : (from i : ℕ) → length t ≤ i → Scanning p t from i → Scanned p t from (length t)
  scanned_all from i h s =
      let e : i ≡ length t = (let w = s.within in omega arith) in
      subst (Scanned p t from) e (scan-end from i h s)

module _ (p : ℕ → Bool) where
  pub front-back : (s : List ℕ) → take_while p s ++ drop_while p s ≡ s
  front-back [] = refl
  front-back (x ∷ xs) = go (p x) (front-back xs)
    where
      go : (b : Bool) → take_while p xs ++ drop_while p xs ≡ xs → cond b (x ∷ take_while p xs) []
          ++ cond b (drop_while p xs) (x ∷ xs) ≡ x ∷ xs
      go true e = ap (λ (l : List ℕ). x ∷ l) e
      go false e = refl

  -- where a scan stops after k bytes, those are the front
  scanned : (s : List ℕ) (k : ℕ) → k ≤ length s → drop k s ≡ drop_while p s → take k s ≡ take_while p s
  scanned s k h e =
      let n : length (take_while p s) + length (drop_while p s) ≡ length s
      = sym (length-append (take_while p s) (drop_while p s)) ∙ ap length (front-back s) in
      let m : length s - k ≡ length (drop_while p s) = sym (length-drop k s) ∙ ap length e in
      let l : length (take_while p s) ≡ k = omega arith in
      ap (take k) (sym (front-back s)) ∙ take_at (take_while p s) (drop_while p s) k l

  -- the bytes that a scan went over
  pub scan-front : (t : List ℕ) (a e : ℕ) → Scanned p t a e → take (e - a) (drop a t) ≡ take_while p (drop a t)
  scan-front t a e s =
      let g : a + (e - a) ≡ e = omega arith in
      scanned (drop a t) (e - a) (rw length-drop (omega arith)) (drop-drop (e - a) a t ∙ ap (λ (n : ℕ). drop n t) g
      ∙ s.left)

  -- where a scan stops the next byte fails the test
  pub dropped-head : (s : List ℕ) (x : ℕ) (xs : List ℕ) → x ∷ xs ≡ drop_while p s → p x ≡ false
  dropped-head [] x xs h = clash (cc)
  dropped-head (y ∷ ys) x xs h = go (p y) refl h (dropped-head ys x xs)
    where
      go : (b : Bool) → p y ≡ b → x ∷ xs ≡ cond b (drop_while p ys) (y ∷ ys) → (x ∷ xs ≡ drop_while p ys → p x ≡ false)
          → p x ≡ false
      go true e h f = f h
      go false e h f = cc

-- a scan over spaces and then one over a word find the next word
pub word_at : (t : List ℕ) (at from to : ℕ) → Scanned is_space t at from → Scanned in_word t from to
    → WordAt t at from to
unfolding next_word past_word
word_at t at from to a b = record {
  word = scan-front in_word t from to b ∙ ap (take_while in_word) a.left;
  left = b.left ∙ ap (drop_while in_word) a.left;
  start = a.on;
  on = b.on;
  within = b.within;
}

-- ---- words of three bytes

pub word-no-space : (x : ℕ) → in_word x ≡ true → is_space x ≡ false
word-no-space x h = go (is_space x) (is_line_end x) h
  where
    go : (b l : Bool) → not (b || l) ≡ true → b ≡ false
    go true l e = clash (cc)
    go false l e = refl

-- one byte more, at the place after it
scan-to : (p : ℕ → Bool) (t : List ℕ) (from i j : ℕ) → i + 1 ≡ j → i < length t → p (get_or t i 0) ≡ true
    → Scanning p t from i → Scanning p t from j
scan-to p t from i j e h b s = subst (Scanning p t from) e (scan-on p t from i h b s)

-- they are the next word
pub three-word : (t : List ℕ) (at : ℕ) → ThreeBytes t at → WordAt t at at (at + 3)
three-word t at w =
    let l : at + 3 < length t = w.within in
    word_at t at at (at + 3) (scan-stop is_space t at at (omega arith) (word-no-space (get_or t at 0) w.first)
    (scan-start is_space t at (omega arith)))
    (scan-stop in_word t at (at + 3) l w.following
    (scan-to in_word t at (at + 2) (at + 3) (omega arith) (omega arith) w.third
    (scan-to in_word t at (at + 1) (at + 2) (omega arith) (omega arith) w.second
    (scan-to in_word t at at (at + 1) refl (omega arith) w.first (scan-start in_word t at (omega arith))))))

-- ---- a byte of what is left of a text

pub byte_of_rest : (t : List ℕ) (at k i : ℕ) → at + k ≡ i → get_or (take (length t - at) (drop at t)) k 0 ≡ get_or t i 0
byte_of_rest t at k i e =
    let l : length (drop at t) ≤ length t - at = rw length-drop (omega arith) in
    rw (take_all (length t - at) (drop at t) l) (get_or-drop at t k 0 ∙ ap (λ n. get_or t n 0) e)
