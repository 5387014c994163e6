-- A line's end, and from one line to the next.
use Prim.Native.Nat.{ℕ, zero, suc, ◌+◌, ◌-◌, ◌<◌, ◌≤◌}
use mathlib.Core.Path.{◌≡◌, refl, sym, ap, ◌∙◌}
use mathlib.Core.Bool.{Bool, true, false, cond, not}
use mathlib.Core.List.{List, [], ◌∷◌}
use native.Mathlib.Numerals.{add-one}
use native.Mathlib.Omega.{arith}
use lib.ListN.{length, drop, get_or, length-drop, drop_of_length-le}
use lib.Seq.{drop-cons, drop-drop}
use Rattle.netlist.specs.Text.{is_space, is_line_end, words, word_lines}
use Rattle.text.specs.Line.{is_blank, in_word, in_line, after_line, next_line_of, next_lines_of, take_while, drop_while}
use Rattle.text.specs.Line.{line_words, is_empty, Scanned, EndAt, LineTaken}
use Rattle.text.proofs.Splitting.{add_line, add_word, lines_step, words-front, end-no-space, skip-words, skip-after}
use Rattle.text.proofs.Splitting.{blank-lines}
use Rattle.text.proofs.Scans.{scan-start, scan-stop, dropped-head}

-- ---- a line's end

module _ (t : List ℕ) (at a : ℕ) (s : Scanned is_space t at a) where
  -- the text ends
  pub end-text : length t ≤ a → EndAt t at a
  unfolding line_words words
  end-text h =
      let e : drop a t ≡ [] = drop_of_length-le t h in
      let f : drop_while is_space (drop at t) ≡ [] = sym s.left ∙ e in
      record {
        none = sym (skip-words (drop at t)) ∙ ap line_words f;
        left = e ∙ sym (sym (skip-after (drop at t)) ∙ ap after_line f);
        on = s.on;
        within = s.within;
      }

  next : a < length t → drop_while is_space (drop at t) ≡ get_or t a 0 ∷ drop (a + 1) t
  next h = sym s.left ∙ rw (add-one, drop-cons t a 0)

  -- the line ends
  pub end_line : a < length t → is_line_end (get_or t a 0) ≡ true → EndAt t at (a + 1)
  unfolding line_words words
  end_line h k =
      let w : line_words (get_or t a 0 ∷ drop (a + 1) t) ≡ [] = rw k in
      let l : after_line (get_or t a 0 ∷ drop (a + 1) t) ≡ drop (a + 1) t = rw k in
      record {
        none = sym (skip-words (drop at t)) ∙ ap line_words (next h) ∙ w;
        left = sym (sym (skip-after (drop at t)) ∙ ap after_line (next h) ∙ l);
        on = omega (arith, s.on);
        within = omega arith;
      }

  -- there is a word
  pub end-not : a < length t → is_line_end (get_or t a 0) ≡ false → is_empty (line_words (drop at t)) ≡ false
  unfolding is_empty
  end-not h k =
      let b : is_space (get_or t a 0) ≡ false = dropped-head is_space (drop at t) _ _ (sym (next h)) in
      let d : take_while in_word (get_or t a 0 ∷ drop (a + 1) t) ≡ get_or t a 0 ∷ take_while in_word (drop (a + 1) t)
      = rw b (rw k) in
      ap is_empty
      (sym (skip-words (drop at t)) ∙ ap line_words (next h) ∙ words-front _
      ∙ ap (λ (w : List ℕ). add_word w (line_words (drop_while in_word (get_or t a 0 ∷ drop (a + 1) t)))) d)

-- the line ends at once
pub end-here : (t : List ℕ) (at : ℕ) → at < length t → is_line_end (get_or t at 0) ≡ true → EndAt t at (at + 1)
end-here t at h e = end_line t at at (scan-stop is_space t at at h (end-no-space (get_or t at 0) e)
    (scan-start is_space t at (omega arith))) h e

-- ---- the next line

after-scan : (s : List ℕ) → after_line s ≡ drop 1 (drop_while in_line s)
after-scan [] = refl
after-scan (x ∷ xs) = go (is_line_end x) (after-scan xs)
  where
    go : (b : Bool) → after_line xs ≡ drop 1 (drop_while in_line xs) → cond b xs (after_line xs)
        ≡ drop 1 (cond (not b) (drop_while in_line xs) (x ∷ xs))
    go true e = refl
    go false e = e

-- a scan for the line's end found it, or the text's end
pub line-found : (t : List ℕ) (at i : ℕ) → i < length t → Scanned in_line t at i → LineTaken t at (i + 1)
line-found t at i h s = record {
  left = sym (after-scan (drop at t) ∙ ap (drop 1) (sym s.left) ∙ drop-drop 1 i t);
  on = omega (arith, s.on);
  within = omega arith;
}

pub line-last : (t : List ℕ) (at i : ℕ) → length t ≤ i → Scanned in_line t at i → LineTaken t at i
line-last t at i h s = record {
  left = drop_of_length-le t h ∙ sym (after-scan (drop at t) ∙ ap (drop 1) (sym s.left ∙ drop_of_length-le t h));
  on = s.on;
  within = s.within;
}

after-shorter : (x : ℕ) (xs : List ℕ) → length (after_line (x ∷ xs)) ≤ length xs
after-shorter x [] = go (is_line_end x)
  where
    go : (b : Bool) → length (cond {A = List ℕ} b [] []) ≤ 0
    go true = omega arith
    go false = omega arith
after-shorter x (y ∷ ys) = go (is_line_end x) (after-shorter y ys)
  where
    go : (b : Bool) → length (after_line (y ∷ ys)) ≤ length ys → length (cond b (y ∷ ys) (after_line (y ∷ ys))) ≤ suc
        (length ys)
    go true h = omega arith
    go false h = omega arith

-- the next line starts further on
pub line_on : (t : List ℕ) (at to : ℕ) → at < length t → LineTaken t at to → at < to
line_on t at to h l =
    let e : length t - to ≡ length (after_line (drop at t)) = sym (length-drop to t) ∙ ap length l.left in
    let d : drop at t ≡ get_or t at 0 ∷ drop (suc at) t = drop-cons t at 0 h in
    let f : length (after_line (drop at t)) ≤ length (drop (suc at) t)
    = rw d (after-shorter (get_or t at 0) (drop (suc at) t)) in
    let g : length (drop (suc at) t) ≡ length t - suc at = length-drop (suc at) t in
    omega arith

-- ---- blank lines

-- a place at a word, or at the text's end
pub record AtWord (t : List ℕ) (i : ℕ) : Type 0 where
  pub still : drop i t ≡ drop_while is_blank (drop i t)
  pub within : i ≤ length t

still-drop : (p : ℕ → Bool) (s : List ℕ) → drop_while p (drop_while p s) ≡ drop_while p s
still-drop p [] = refl
still-drop p (x ∷ xs) = go (p x) refl (still-drop p xs)
  where
    go : (b : Bool) → p x ≡ b → drop_while p (drop_while p xs) ≡ drop_while p xs
        → drop_while p (cond b (drop_while p xs) (x ∷ xs)) ≡ cond b (drop_while p xs) (x ∷ xs)
    go true e h = h
    go false e h = rw e

-- blank lines were skipped
pub at-word : (t : List ℕ) (at to : ℕ) → Scanned is_blank t at to → AtWord t to
at-word t at to s = record {
  still = s.left ∙ sym (still-drop is_blank (drop at t))
      ∙ ap (drop_while is_blank) (sym s.left);
  within = s.within;
}

pub blanks-lines : (t : List ℕ) (at to : ℕ) → Scanned is_blank t at to → word_lines (drop to t) ≡ word_lines (drop at t)
blanks-lines t at to s = ap word_lines s.left ∙ blank-lines (drop at t)

-- at a word the first line counts
pub word_line : (t : List ℕ) (i : ℕ) → i < length t → AtWord t i → word_lines (drop i t)
    ≡ line_words (drop i t) ∷ word_lines (after_line (drop i t))
word_line t i h a =
    let e : get_or t i 0 ∷ drop (suc i) t ≡ drop_while is_blank (drop i t) = sym (drop-cons t i 0 h) ∙ a.still in
    let b : is_blank (get_or t i 0) ≡ false = dropped-head is_blank (drop i t) _ _ e in
    let d : take_while in_word (drop i t) ≡ get_or t i 0 ∷ take_while in_word (drop (suc i) t)
    = rw (drop-cons t i 0) (rw b) in
    let f : line_words (drop i t) ≡ (get_or t i 0 ∷ take_while in_word (drop (suc i) t)) ∷ line_words
    (drop_while in_word (drop i t))
    = words-front (drop i t) ∙ ap (λ (w : List ℕ). add_word w (line_words (drop_while in_word (drop i t)))) d in
    lines_step (drop i t) ∙ ap (λ (l : List (List ℕ)). add_line l (word_lines (after_line (drop i t)))) f
    ∙ ap (λ (l : List (List ℕ)). l ∷ word_lines (after_line (drop i t))) (sym f)

-- at the end there is none
pub no_line : (t : List ℕ) (i : ℕ) → length t ≤ i → word_lines (drop i t) ≡ []
unfolding word_lines words
no_line t i h = rw (drop_of_length-le t h)

-- ---- places after lines with words

-- the lines there are all but the first
pub following-line : (s : List ℕ) → word_lines (next_line_of s) ≡ drop 1 (word_lines s)
unfolding next_line_of word_lines words
following-line s = go (drop_while is_blank s) refl
  where
    go : (u : List ℕ) → drop_while is_blank s ≡ u → word_lines (after_line u) ≡ drop 1 (word_lines s)
    go [] e = ap (drop 1) (sym (ap word_lines e) ∙ blank-lines s)
    go (x ∷ xs) e =
        let still : AtWord (x ∷ xs) 0
        = record { still = sym e ∙ sym (still-drop is_blank s) ∙ ap (drop_while is_blank) e; within = omega arith } in
        sym (ap (drop 1) (sym (blank-lines s) ∙ ap word_lines e ∙ word_line (x ∷ xs) 0 (omega arith) still))

-- and all but the first n
pub following-lines : (n : ℕ) (s : List ℕ) → word_lines (next_lines_of n s) ≡ drop n (word_lines s)
following-lines zero s = refl
following-lines (suc n) s =
    let z : 1 + n ≡ suc n = omega arith in
    following-lines n (next_line_of s) ∙ ap (drop n) (following-line s) ∙ drop-drop n 1 (word_lines s)
    ∙ ap (λ (m : ℕ). drop m (word_lines s)) z

-- ---- lines counted

-- n lines stand between a place at a word and another
pub record Counting (t : List ℕ) (from i n : ℕ) : Type 0 where
  pub place : AtWord t i
  pub count : n + length (word_lines (drop i t)) ≡ length (word_lines (drop from t))
  pub few : n ≤ i

module _ (t : List ℕ) where
  pub counting-start : (i : ℕ) → AtWord t i → Counting t i i 0
  counting-start i a = record { place = a; count = omega arith; few = omega arith }

  pub counting-on : (from i n j k : ℕ) → i < length t → Counting t from i n → LineTaken t i j → Scanned is_blank t j k
      → Counting t from k (n + 1)
  counting-on from i n j k h c l s =
      let e : length (word_lines (drop k t)) ≡ length (word_lines (drop j t)) = ap length (blanks-lines t j k s) in
      let f : length (word_lines (drop i t)) ≡ suc (length (word_lines (after_line (drop i t))))
      = ap length (word_line t i h c.place) in
      let g : length (word_lines (drop j t)) ≡ length (word_lines (after_line (drop i t)))
      = ap (λ (s : List ℕ). length (word_lines s)) l.left in
      let o : i < j = line_on t i j h l in
      record { place = at-word t j k s; count = omega (arith, c.count); few = omega (arith, c.few, s.on) }

  pub counting-end : (from i n : ℕ) → length t ≤ i → Counting t from i n → n ≡ length (word_lines (drop from t))
  counting-end from i n h c =
      let e : length (word_lines (drop i t)) ≡ 0 = ap length (no_line t i h) in
      omega (arith, c.count)
