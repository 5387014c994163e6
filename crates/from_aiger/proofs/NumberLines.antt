-- A line of so many numbers, read one after another.
use Prim.Native.Nat.{ℕ, suc, ◌+◌, ◌-◌, ◌<◌, ◌≤◌}
use mathlib.Core.Path.{◌≡◌, refl, sym, ap, ◌∙◌}
use mathlib.Core.Bool.{Bool, true, false, cond, not, ◌&&◌}
use mathlib.Core.List.{List, [], ◌∷◌, ◌++◌, append-nil, append_assoc}
use mathlib.Core.Option.{Option, none, some}
use native.Mathlib.Numerals.{add-one}
use native.Mathlib.Omega.{arith}
use lib.Dec.{eqb}
use lib.ListN.{length, take, drop, set, length-set, length-append, length-drop}
use lib.Seq.{length-take-le, take_all, take-suc-set}
use borrow.Author.Tests.{eqb-true}
use Rattle.netlist.specs.Text.{space, lf, cr, at_lf, is_line_end, is_space}
use Rattle.netlist.specs.Number.{number}
use Rattle.netlist.specs.Header.{numbers, cons_option}
use Rattle.netlist.proofs.Tests.{all_head, all_tail, on_bool, clash}
use Rattle.netlist.proofs.Questions.{none-some, some_same}
use Rattle.netlist.proofs.LineEnds.{NoCR}
use Rattle.text.specs.Line.{in_word, take_while, drop_while, past_space, line_words, next_word, past_word, after_line}
use Rattle.text.specs.Line.{is_empty, Scanned, EndAt, LineTaken}
use Rattle.text.specs.Answers.{word_from, after_word, WholeAt, NumberAt}
use Rattle.std.specs.Prelude as P
use Rattle.text.proofs.Answering.{number-front, number-after, no_number}
use Rattle.text.proofs.DigitByDigit.{whole-next}
use Rattle.text.proofs.Scans.{dropped-head}
use Rattle.text.proofs.Splitting.{add_line, add_word, words_step, skip-words, skip-after}
use Rattle.aiger.specs.Lines.{file_line, file_lines}
use Rattle.from_aiger.specs.Stray.{is_stray, stray_at, is_plain, ToWord}
use Rattle.from_aiger.specs.LineAnswers.{NotSoMany, lines_left, FileLineAt, FileLineIs, first_numbers, LineIs}
use Rattle.from_aiger.specs.declared.lines.Lines.{Lines}
use Rattle.from_aiger.proofs.Strays.{Clean, stray-within, stray-drop, stray-here, clean_line, numbers-clean}
use Rattle.from_aiger.proofs.Strays.{number-no-cr, file-step, word_first}

-- numbers in front of numbers
abbrev pub joined : List ℕ → Option (List ℕ) → Option (List ℕ)
joined ns none = none
joined ns (some ms) = some (ns ++ ms)

joined-nil : (o : Option (List ℕ)) → o ≡ joined [] o
joined-nil none = refl
joined-nil (some ms) = refl

joined-more : (ns : List ℕ) (v : ℕ) (o : Option (List ℕ)) → joined ns (cons_option (some v) o)
    ≡ joined (ns ++ (v ∷ [])) o
joined-more ns v none = refl
joined-more ns v (some ms) = ap {B = Option (List ℕ)} some (sym (append_assoc ns (v ∷ []) ms))

-- the first line of t from a place, its words parted as the line reader parts them, holds the numbers xs
pub record NumbersAt (t : List ℕ) (at n : ℕ) (xs : List ℕ) (to : ℕ) : Type 0 where
  pub line : numbers (line_words (drop at t)) ≡ some xs
  pub size : length xs ≡ n
  pub next : LineTaken t at to

-- the line of a place begins with the first i numbers of the table, and goes on at p
pub record Numbering (t : List ℕ) (at n : ℕ) (into : List ℕ) (p i : ℕ) : Type 0 where
  pub line : numbers (line_words (drop at t)) ≡ joined (take i into) (numbers (line_words (drop p t)))
  pub after : after_line (drop p t) ≡ after_line (drop at t)
  pub size : length into ≡ n
  pub few : i ≤ n
  pub on : at ≤ p
  pub within : p ≤ length t
  pub before : p ≤ stray_at t

pub numbering_start : (t : List ℕ) (at n : ℕ) (into : List ℕ) → at ≤ stray_at t → length into ≡ n
    → Numbering t at n into at 0
numbering_start t at n into h s = record {
  line = joined-nil _;
  after = refl;
  size = s;
  few = omega arith;
  on = omega arith;
  within = omega (arith, stray-within t);
  before = h;
}

joined_length : (ns : List ℕ) (o : Option (List ℕ)) (xs : List ℕ) → joined ns o ≡ some xs → (ms : List ℕ)
    × (o ≡ some ms) × (length xs ≡ length ns + length ms)
joined_length ns none xs e = absurd (none-some xs e)
joined_length ns (some ms) xs e = (ms, refl, ap length (sym (some_same (ns ++ ms) xs e)) ∙ length-append ns ms)

numbers_on : (t : List ℕ) (at v to : ℕ) → NumberAt t at v to → numbers (line_words (drop at t))
    ≡ cons_option (some v) (numbers (line_words (drop to t)))
numbers_on t at v to a = ap numbers (number-front (drop at t) v (drop to t) a.value a.left) ∙ rw a.value

-- ---- past spaces

plain-space : (s : List ℕ) → drop_while is_space (drop_while is_plain s) ≡ drop_while is_space s
plain-space [] = refl
plain-space (x ∷ xs) = go (is_plain x) refl (plain-space xs)
  where
    go : (b : Bool) → is_plain x ≡ b → drop_while is_space (drop_while is_plain xs) ≡ drop_while is_space xs
        → drop_while is_space (cond b (drop_while is_plain xs) (x ∷ xs)) ≡ drop_while is_space (x ∷ xs)
    go true e h = h ∙ rw e refl
    go false e h = refl

plain-words : (s : List ℕ) → line_words (drop_while is_plain s) ≡ line_words s
plain-words s = sym (skip-words (drop_while is_plain s)) ∙ ap line_words (plain-space s) ∙ skip-words s

plain-after : (s : List ℕ) → after_line (drop_while is_plain s) ≡ after_line s
plain-after s = sym (skip-after (drop_while is_plain s)) ∙ ap after_line (plain-space s) ∙ skip-after s

plain-stray : (s : List ℕ) → stray_at s + length (drop_while is_plain s) ≡ length s + stray_at (drop_while is_plain s)
plain-stray [] = omega arith
plain-stray (x ∷ xs) = go (is_plain x) refl (plain-stray xs)
  where
    go : (b : Bool) → is_plain x ≡ b → stray_at xs + length (drop_while is_plain xs)
        ≡ length xs + stray_at (drop_while is_plain xs)
        → stray_at (x ∷ xs) + length (cond b (drop_while is_plain xs) (x ∷ xs)) ≡ suc (length xs) + stray_at
        (cond b (drop_while is_plain xs) (x ∷ xs))
    go true e h = let z : stray_at (x ∷ xs) ≡ suc (stray_at xs) = ap (λ (y : ℕ). stray_at (y ∷ xs)) (eqb-true x space e)
        in omega arith
    go false e h = omega arith

module _ (t : List ℕ) (p q : ℕ) (s : Scanned is_plain t p q) where
  plain-before : p ≤ stray_at t → q ≤ stray_at t
  plain-before h =
      let a = stray-drop t p h in
      let b = plain-stray (drop p t) in
      let c : length (drop_while is_plain (drop p t)) ≡ length t - q = ap length (sym s.left) ∙ length-drop q t in
      let d = length-drop p t in
      let e = s.within in
      let f = s.on in
      omega arith

  words_same : line_words (drop q t) ≡ line_words (drop p t)
  words_same = ap line_words s.left ∙ plain-words (drop p t)

  after_same : after_line (drop q t) ≡ after_line (drop p t)
  after_same = ap after_line s.left ∙ plain-after (drop p t)

  no_plain : (x : ℕ) (xs : List ℕ) → x ∷ xs ≡ drop q t → is_plain x ≡ false
  no_plain x xs e = dropped-head is_plain (drop p t) x xs (e ∙ s.left)

-- ---- a number after them

no-empty : (v : ℕ) → number [] ≡ some v → ⊥
unfolding number
no-empty v e = clash (cc)

empty-none : number [] ≡ none
unfolding number
empty-none = refl

-- a word that is a number starts at once
word-still : (s : List ℕ) (v : ℕ) → number (take_while in_word s) ≡ some v → s ≡ drop_while is_space s
word-still [] v e = refl
word-still (x ∷ xs) v e = go (is_space x) refl e
  where
    go : (b : Bool) → is_space x ≡ b → number (take_while in_word (x ∷ xs)) ≡ some v → x ∷ xs
        ≡ cond b (drop_while is_space xs) (x ∷ xs)
    go true p e = absurd (no-empty v (ap number (rw p refl) ∙ e))
    go false p e = refl

-- a word without CR, and the space after it
word-stray : (s : List ℕ) → NoCR (take_while in_word s) → length s ≤ length (past_space (drop_while in_word s)) +
    stray_at s
word-stray [] h = omega arith
word-stray (x ∷ xs) h = go (in_word x) refl h (word-stray xs)
  where
    space-stray : (b : Bool) → eqb x space ≡ b → suc (length xs) ≤ length (cond b xs (x ∷ xs)) + stray_at (x ∷ xs)
    space-stray true e = let z : stray_at (x ∷ xs) ≡ suc (stray_at xs) = ap (λ (y : ℕ). stray_at (y ∷ xs))
        (eqb-true x space e) in omega arith
    space-stray false e = omega arith

    go : (b : Bool) → in_word x ≡ b → NoCR (cond b (x ∷ take_while in_word xs) [])
        → (NoCR (take_while in_word xs) → length xs ≤ length (past_space (drop_while in_word xs)) + stray_at xs)
        → suc (length xs) ≤ length (past_space (cond b (drop_while in_word xs) (x ∷ xs))) + stray_at (x ∷ xs)
    go true e h f = let z : stray_at (x ∷ xs) ≡ suc (stray_at xs) = rw (all_head h) in let l = f (all_tail h)
        in omega arith
    go false e h f = space-stray (eqb x space) refl

whole_before : (t : List ℕ) (q v to : ℕ) → q ≤ stray_at t → WholeAt t q v to → to ≤ stray_at t
whole_before t q v to h w =
    let a = stray-drop t q h in
    let b = word-stray (drop q t) (number-no-cr (word_from t q) v w.value) in
    let c : length (past_space (after_word t q)) ≡ length t - to = ap length (sym w.left) ∙ length-drop to t in
    let d = length-drop q t in
    let e = w.within in
    let f = stray-within t in
    omega arith

module _ (t : List ℕ) (p q : ℕ) (s : Scanned is_plain t p q) where
  number_at : (v c : ℕ) → WholeAt t q v c → NumberAt t p v c
  number_at v c w =
      whole-next t p q (record {
        left = word-still (drop q t) v w.value ∙ ap (drop_while is_space) s.left
            ∙ plain-space (drop p t);
        on = s.on;
        within = s.within;
      }) v c w

  -- no number stands after them, and no CR but before LF
  number-none : is_stray (drop q t) ≡ false → number (word_from t q) ≡ none → number (next_word (drop p t)) ≡ none
  unfolding next_word
  number-none e w =
      ap (λ (u : List ℕ). number (take_while in_word u))
      (sym (ap (drop_while is_space) s.left ∙ plain-space (drop p t))) ∙ go (drop q t) refl e w
    where
      crlf : (x : ℕ) (xs : List ℕ) → at_lf xs ≡ true → eqb x cr ≡ true
          → number (take_while in_word (drop_while is_space (x ∷ xs))) ≡ none
      crlf x [] l e = clash (cc)
      crlf x (y ∷ ys) l e =
          let a : x ≡ cr = eqb-true x cr e in
          let b : y ≡ lf = eqb-true y lf l in
          ap (λ (u : ℕ). number (take_while in_word (drop_while is_space (u ∷ (y ∷ ys))))) a
          ∙ ap (λ (u : ℕ). number (take_while in_word (drop_while is_space (cr ∷ (u ∷ ys))))) b ∙ empty-none

      at : (x : ℕ) (xs : List ℕ) (b : Bool) → is_plain x ≡ false → eqb x cr ≡ b → (b && not (at_lf xs)) ≡ false
          → number (take_while in_word (x ∷ xs)) ≡ none
          → number (take_while in_word (drop_while is_space (x ∷ xs))) ≡ none
      at x xs true f g e w = crlf x xs (not-false (at_lf xs) e) g
        where
          not-false : (b : Bool) → not b ≡ false → b ≡ true
          not-false true h = refl
          not-false false h = sym h
      at x xs false f g e w = ap (λ (u : List ℕ). number (take_while in_word u)) same ∙ w
        where
          same : drop_while is_space (x ∷ xs) ≡ x ∷ xs
          same = rw (f, g)

      go : (u : List ℕ) → u ≡ drop q t → is_stray u ≡ false → number (take_while in_word u) ≡ none
          → number (take_while in_word (drop_while is_space u)) ≡ none
      go [] k e w = w
      go (x ∷ xs) k e w = at x xs (eqb x cr) (no_plain t p q s x xs k) refl e w

-- ---- the line's end after them

-- a line of no words ends without a CR but before LF
end_clean : (s : List ℕ) → ((x : ℕ) (xs : List ℕ) → x ∷ xs ≡ s → is_plain x ≡ false) → is_stray s ≡ false → line_words s
    ≡ [] → Clean s
unfolding next_word
end_clean [] f e w = omega arith
end_clean (x ∷ xs) f e w = go (eqb x cr) (is_line_end x) refl refl e w
  where
    crlf : (ys : List ℕ) → at_lf ys ≡ true → length ys ≤ length (after_line ys) + stray_at ys
    crlf [] l = omega arith
    crlf (y ∷ ys) l =
        let b : y ≡ lf = eqb-true y lf l in
        let z : length (after_line (y ∷ ys)) ≡ length ys = ap (λ (u : ℕ). length (after_line (u ∷ ys))) b in
        let k : stray_at (y ∷ ys) ≡ suc (stray_at ys) = ap (λ (u : ℕ). stray_at (u ∷ ys)) b in
        omega arith

    go : (a b : Bool) → eqb x cr ≡ a → is_line_end x ≡ b → (a && not (at_lf xs)) ≡ false → line_words (x ∷ xs) ≡ []
        → Clean (x ∷ xs)
    go a true p q e w =
        let b : x ≡ lf = eqb-true x lf q in
        let z : length (after_line (x ∷ xs)) ≡ length xs = ap (λ (u : ℕ). length (after_line (u ∷ xs))) b in
        let k : stray_at (x ∷ xs) ≡ suc (stray_at xs) = ap (λ (u : ℕ). stray_at (u ∷ xs)) b in
        omega arith
    go true false p q e w =
        let l : at_lf xs ≡ true = not-false (at_lf xs) e in
        let a : length (after_line (x ∷ xs)) ≡ length (after_line xs) = rw q in
        let k : stray_at (x ∷ xs) ≡ suc (stray_at xs) = rw (p, l) in
        let m = crlf xs l in
        omega arith
      where
        not-false : (b : Bool) → not b ≡ false → b ≡ true
        not-false true h = refl
        not-false false h = sym h
    go false false p q e w = absurd (worded (f x xs refl) p q w)
      where
        worded : is_plain x ≡ false → eqb x cr ≡ false → is_line_end x ≡ false → line_words (x ∷ xs) ≡ [] → ⊥
        worded a b c h =
            let n : next_word (x ∷ xs) ≡ x ∷ take_while in_word xs = rw (a, b) (rw (a, b, c) refl) in
            let k : (x ∷ take_while in_word xs) ∷ line_words (past_word (x ∷ xs)) ≡ []
            = sym (words_step (x ∷ xs) ∙ ap (λ (u : List ℕ). add_word u (line_words (past_word (x ∷ xs)))) n) ∙ h in
            clash (cc)

clean-to : (t : List ℕ) (at to : ℕ) → LineTaken t at to → at ≤ stray_at t → Clean (drop at t) → to ≤ stray_at t
clean-to t at to l h c =
    let w = stray-within t in
    let n = l.within in
    let d = stray-drop t at h in
    let a : length (after_line (drop at t)) ≡ length t - to = ap length (sym l.left) ∙ length-drop to t in
    let b = length-drop at t in
    omega arith

-- ---- the line as the file has it

-- the line of a place ends before such a CR
clean-here : (t : List ℕ) (at to : ℕ) → LineTaken t at to → to ≤ stray_at t → Clean (drop at t)
clean-here t at to l h =
    let w = stray-within t in
    let o = l.on in
    let d = stray-drop t at (omega arith) in
    let a : length (after_line (drop at t)) ≡ length t - to = ap length (sym l.left) ∙ length-drop to t in
    let b = length-drop at t in
    omega arith

module _ (t : List ℕ) (at n : ℕ) where
  file-line : (xs : List ℕ) (to : ℕ) → NumbersAt t at n xs to → to ≤ stray_at t → FileLineAt (drop at t) n xs
      (drop to t)
  file-line xs to a h = record {
    line = ap numbers (clean_line (drop at t) (clean-here t at to a.next h)) ∙ a.line;
    size
        = a.size;
    next = a.next.left;
  }

  -- a line that the line reader does not take
  file-none : NotSoMany (numbers (line_words (drop at t))) n → NotSoMany (numbers (file_line (drop at t))) n
  file-none f ys e l = f ys (ap numbers (sym (clean_line (drop at t) (numbers-clean (drop at t) ys e))) ∙ e) l

-- ---- number by number

module _ {t : List ℕ} {at n : ℕ} {into : List ℕ} {p i : ℕ} (N : Numbering t at n into p i) {q : ℕ}
    (s : Scanned is_plain t p q) where
  front : length (take i into) ≡ i
  front = length-take-le i into (omega (arith, N.few, N.size))

  -- one more number
  pub numbering-more : (v c : ℕ) → i < n → WholeAt t q v c → Numbering t at n (set into i v) c (i + 1)
  numbering-more v c h w =
      let a = number_at t p q s v c w in
      record {
        line = N.line ∙ ap (joined (take i into)) (numbers_on t p v c a) ∙ joined-more (take i into) v
            (numbers (line_words (drop c t)))
            ∙ ap (λ (ns : List ℕ). joined ns (numbers (line_words (drop c t))))
            (sym (ap (λ (k : ℕ). take k (set into i v)) (add-one i)
            ∙ take-suc-set into i v (omega (arith, N.size))));
        after = number-after (drop p t) v (drop c t) a.value a.left ∙ N.after;
        size = length-set into i v ∙ N.size;
        few = omega arith;
        on = omega (arith, N.on, a.on);
        within = a.within;
        before = whole_before t q v c (plain-before t p q s N.before) w;
      }

  -- a CR that does not stand before LF
  pub numbering-stray : is_stray (drop q t) ≡ true → NotSoMany (numbers (file_line (drop at t))) n
  numbering-stray e ys k l =
      let b = plain-before t p q s N.before in
      let c = numbers-clean (drop at t) ys k in
      let h = stray-here (drop q t) e in
      let d = stray-drop t q b in
      let o = N.on in
      let f = s.on in
      let a = stray-drop t at (omega arith) in
      let g : length (after_line (drop q t)) ≡ length (after_line (drop at t))
      = ap length (after_same t p q s ∙ N.after) in
      let x = h.0 in
      let y = h.1 in
      let u = length-drop q t in
      let v = length-drop at t in
      omega arith

  -- too few
  short : i < n → number (next_word (drop p t)) ≡ none → NotSoMany (numbers (line_words (drop at t))) n
  short h e xs k l =
      let f = front in
      let j = joined_length (take i into) _ xs (sym N.line ∙ k) in
      no_number (λ ws. (ms : List ℕ) → numbers ws ≡ some ms → length xs ≡ length (take i into) + length ms → ⊥)
      (drop p t) e
      (λ ms q r. let z : length ms ≡ 0 = ap length (sym (some_same [] ms q)) in omega arith)
      (λ w ws q ms r s. none-some ms (sym (rw q refl) ∙ r)) j.0 j.1 j.2

  pub numbering-short : i < n → number (word_from t q) ≡ none → NotSoMany (numbers (file_line (drop at t))) n
  numbering-short h e =
      on_bool (is_stray (drop q t)) (λ d. numbering-stray d) (λ d. file-none t at n (short h (number-none t p q s d e)))

  -- too many
  long : n ≤ i → is_empty (line_words (drop p t)) ≡ false → NotSoMany (numbers (line_words (drop at t))) n
  unfolding is_empty
  long h e xs k l =
      let f = front in
      let j = joined_length (take i into) _ xs (sym N.line ∙ k) in
      go (line_words (drop p t)) e j.0 j.1 j.2
    where
      longer : (o : Option ℕ) (q : Option (List ℕ)) (ms : List ℕ) → cons_option o q ≡ some ms → 1 ≤ length ms
      longer none q ms z = absurd (none-some ms z)
      longer (some x) none ms z = absurd (none-some ms z)
      longer (some x) (some xs) ms z = let y : suc (length xs) ≡ length ms = ap length (some_same (x ∷ xs) ms z)
          in omega arith

      go : (ws : List (List ℕ)) → is_empty ws ≡ false → (ms : List ℕ) → numbers ws ≡ some ms → length xs
          ≡ length (take i into) + length ms → ⊥
      go [] z ms q r = clash (cc)
      go (w ∷ ws) z ms q r = let y = longer (number w) (numbers ws) ms q in let f = front in let m = N.few
          in omega arith

  pub numbering-long : n ≤ i → is_empty (line_words (drop q t)) ≡ false → NotSoMany (numbers (file_line (drop at t))) n
  numbering-long h e = file-none t at n (long h (ap is_empty (sym (words_same t p q s)) ∙ e))

  -- just so many
  pub numbering-end : n ≤ i → (to : ℕ) → is_stray (drop q t) ≡ false → EndAt t q to → FileLineAt (drop at t) n into
      (drop to t) × (to ≤ stray_at t)
  numbering-end h to d e =
      let taken : LineTaken t q to = record { left = e.left; on = e.on; within = e.within } in
      let clean = end_clean (drop q t) (no_plain t p q s) d e.none in
      let c = clean-to t q to taken (plain-before t p q s N.before) clean in (
        file-line t at n into to
            (record {
              line = N.line ∙ ap (λ (ws : List (List ℕ)). joined (take i into) (numbers ws))
                  (sym (words_same t p q s) ∙ e.none)
                  ∙ ap {B = Option (List ℕ)} some (append-nil (take i into) ∙ take_all i into (omega (arith, N.size)));
              size = N.size;
              next = record {
                left = e.left ∙ after_same t p q s ∙ N.after;
                on = omega (arith, N.on, s.on, e.on);
                within
                    = e.within;
              };
            })
            c,
        c,
      )

-- ---- the next line that is not blank

numbers-add : (l : List (List ℕ)) (ls : List (List (List ℕ))) (xs : List ℕ) → numbers l ≡ some xs → 1 ≤ length xs
    → add_line l ls ≡ l ∷ ls
numbers-add [] ls xs e h = let z : 0 ≡ length xs = ap length (some_same [] xs e) in absurd (omega arith)
numbers-add (w ∷ ws) ls xs e h = refl

module _ (t : List ℕ) (at a : ℕ) (w : ToWord t at a) where
  pub next-line : (n : ℕ) (r : P.Option (List ℕ × Lines)) → 1 ≤ n → FileLineIs (drop a t) n r
      → LineIs (file_lines (drop at t)) n r
  next-line n (P.Some (xs, m)) one h =
      let z = h.size in
      let l : file_lines (drop at t) ≡ file_line (drop a t) ∷ lines_left m =
      sym w.lines ∙ file-step (drop a t) ∙ numbers-add (file_line (drop a t)) _ xs h.line (omega arith)
      ∙ ap (λ (r : List ℕ). file_line (drop a t) ∷ file_lines r) (sym h.next) in
      record { line = ap first_numbers l ∙ h.line; size = h.size; next = sym (ap (drop 1) l) }
  next-line n P.None one h
      = record { none = λ ys e z. h ys (word_first (drop a t) ys w.still (ap first_numbers w.lines ∙ e)) z }
