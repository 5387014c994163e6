-- A number read digit by digit, its value made while its end is looked for.
use Prim.Native.Nat.{ℕ, suc, ◌+◌, ◌-◌, ◌*◌, ◌^◌, ◌<◌, ◌≤◌}
use mathlib.Core.Path.{◌≡◌, sym, ap, ◌∙◌, subst}
use mathlib.Core.Bool.{true, false, not}
use mathlib.Core.List.{List, [], ◌∷◌}
use mathlib.Core.Option.{none, some}
use native.Mathlib.Numerals.{add-one}
use native.Mathlib.Omega.{arith}
use native.Mathlib.Nat.{pow-suc, pow-le-pow_right}
use lib.Dec.{eqb}
use lib.ListN.{length, drop, get_or, drop_of_length-le}
use lib.Seq.{drop-cons}
use borrow.Author.Tests.{ne_eqb}
use Rattle.netlist.specs.Number.{is_digit, all_digits, value_from, no_leading_zero, max_digits, number}
use Rattle.netlist.proofs.Tests.{on_bool}
use Rattle.netlist.specs.Text.{space, is_space}
use Rattle.text.specs.Line.{is_blank, in_word, take_while, drop_while, next_word, past_word, past_space, Scanned}
use Rattle.text.specs.Answers.{word_from, after_word, is_full, WholeAt, NumberAt, one_digit}
use Rattle.text.proofs.Numbers.{no-digits, ill-led, too_long, a-number, led-filled, digit-word, above-space}
use Rattle.text.proofs.Numbers.{digit-range, full-or, not_full}
use Rattle.text.proofs.Scans.{Scanning, scan-start, scan-stop, scan-end, word-no-space}

-- ---- a word byte by byte

module _ (t : List ℕ) (i : ℕ) where
  module _ (h : i < length t) where
    word_on : in_word (get_or t i 0) ≡ true → word_from t i ≡ get_or t i 0 ∷ word_from t (i + 1)
    word_on e = rw (add-one, drop-cons t i 0) (rw e)

    following-on : in_word (get_or t i 0) ≡ true → after_word t i ≡ after_word t (i + 1)
    following-on e = rw (add-one, drop-cons t i 0) (rw e)

    word-stop : in_word (get_or t i 0) ≡ false → word_from t i ≡ []
    word-stop e = rw (drop-cons t i 0) (rw e)

    following-stop : in_word (get_or t i 0) ≡ false → after_word t i ≡ drop i t
    following-stop e = rw (drop-cons t i 0) (rw e)

  word_end : length t ≤ i → word_from t i ≡ []
  word_end h = rw (drop_of_length-le t h)

  following-end : length t ≤ i → after_word t i ≡ drop i t
  following-end h = rw (drop_of_length-le t h)

-- ---- the first byte

-- there is none
pub first-none : (t : List ℕ) (from : ℕ) → length t ≤ from → number (word_from t from) ≡ none
unfolding number
first-none t from h = ap number (word_end t from h)

-- it is no digit
pub first-other : (t : List ℕ) (from : ℕ) → from < length t → is_digit (get_or t from 0) ≡ false
    → number (word_from t from) ≡ none
unfolding number
first-other t from h d =
    on_bool (in_word (get_or t from 0)) (λ e. no-digits (word_from t from) (ap all_digits (word_on t from h e) ∙ rw d))
    (λ e. ap number (word-stop t from h e))

-- ---- the bytes after it

-- the bytes of the word up to place i are digits of the value v; `more` of them stand after the first
pub record Reading (t : List ℕ) (from v more i : ℕ) : Type 0 where
  pub place : from + suc more ≡ i
  pub digits : all_digits (word_from t i) ≡ all_digits (word_from t from)
  pub led : no_leading_zero ((48 + v) ∷ word_from t i) ≡ no_leading_zero (word_from t from)
  pub size : suc more + length (word_from t i) ≡ length (word_from t from)
  pub value : value_from v (word_from t i) ≡ value_from 0 (word_from t from)
  pub left : after_word t i ≡ after_word t from
  pub high : v < 10 ^ suc more
  pub few : more < max_digits
  pub within : i ≤ length t

module _ (t : List ℕ) (from : ℕ) where
  pub reading-start : (x : ℕ) → from < length t → is_digit (get_or t from 0) ≡ true → x ≡ get_or t from 0 - 48
      → Reading t from x 0 (from + 1)
  reading-start x h d e =
      let b = get_or t from 0 in
      let w : word_from t from ≡ b ∷ word_from t (from + 1) = word_on t from h (digit-word b d) in
      let range : (48 ≤ b) × (b ≤ 57) = digit-range b d in
      let same : 48 + x ≡ b = omega arith in
      let plain : 0 * 10 + (b - 48) ≡ x = omega arith in
      record {
        place = omega arith;
        digits = sym (ap all_digits w ∙ rw d);
        led = sym (ap no_leading_zero w ∙ ap (λ (y : ℕ). no_leading_zero (y ∷ word_from t (from + 1))) (sym same));
        size = omega (arith, ap length w);
        value = sym (ap (value_from 0) w ∙ ap (λ (y : ℕ). value_from y (word_from t (from + 1))) plain);
        left = sym (following-on t from h (digit-word b d));
        high = omega arith;
        few = omega arith;
        within = omega arith;
      }

  module _ (v more i : ℕ) (r : Reading t from v more i) where
    -- one more digit
    pub reading-on : (x : ℕ) → i < length t → is_digit (get_or t i 0) ≡ true → x ≡ get_or t i 0 - 48 → is_full v more
        ≡ false
        → Reading t from (v * 10 + x) (more + 1) (i + 1)
    reading-on x h d e f =
        let b = get_or t i 0 in
        let w : word_from t i ≡ b ∷ word_from t (i + 1) = word_on t i h (digit-word b d) in
        let range : (48 ≤ b) × (b ≤ 57) = digit-range b d in
        let p : 0 < v = (not_full v more f).0 in
        let q : 10 ^ (more + 1) ≡ 10 ^ suc more = ap (λ (m : ℕ). 10 ^ m) (add-one more) in
        record {
          place = omega (arith, r.place);
          digits = sym (ap all_digits w ∙ rw d) ∙ r.digits;
          led = led-filled (word_from t (i + 1)) (v * 10 + x) (omega arith) ∙ sym (led-filled (word_from t i) v p)
              ∙ r.led;
          size = omega (arith, r.size, ap length w);
          value = ap (λ (y : ℕ). value_from (v * 10 + y) (word_from t (i + 1))) e ∙ sym (ap (value_from v) w) ∙ r.value;
          left = sym (following-on t i h (digit-word b d)) ∙ r.left;
          high = omega (arith, r.high, q, pow-suc 10 (more + 1));
          few = omega (arith, (not_full v more f).1);
          within = omega arith;
        }

    -- a digit that may not follow
    pub reading-full : i < length t → is_digit (get_or t i 0) ≡ true → is_full v more ≡ true → number (word_from t from)
        ≡ none
    reading-full h d f =
        let b = get_or t i 0 in
        let w : word_from t i ≡ b ∷ word_from t (i + 1) = word_on t i h (digit-word b d) in
        full-or v more f
        (λ z. ill-led (word_from t from) (sym r.led ∙ ap (λ (x : List ℕ). no_leading_zero ((48 + v) ∷ x)) w ∙ rw z))
        (λ l. too_long (word_from t from) (omega (arith, r.size, ap length w)))

    -- a value that a digit may follow
    pub reading_small : is_full v more ≡ false → v < 10 ^ (max_digits - 1)
    reading_small f =
        let k : suc more ≤ max_digits - 1 = omega (arith, (not_full v more f).1) in
        let m : 10 ^ suc more ≤ 10 ^ (max_digits - 1) = pow-le-pow_right {n = 10} (omega arith) k in
        omega (arith, r.high)

    -- a byte that is neither a digit nor blank
    pub reading-other : i < length t → is_blank (get_or t i 0) ≡ false → is_digit (get_or t i 0) ≡ false
        → number (word_from t from) ≡ none
    reading-other h e d = no-digits (word_from t from) (sym r.digits ∙ ap all_digits (word_on t i h (ap not e)) ∙ rw d)

    pub reading-above : i < length t → space < get_or t i 0 → is_digit (get_or t i 0) ≡ false
        → number (word_from t from) ≡ none
    reading-above h l d = reading-other h (above-space (get_or t i 0) l) d

    ended : (to : ℕ) → word_from t i ≡ [] → drop to t ≡ past_space (after_word t i) → i ≤ to → to ≤ length t
        → WholeAt t from v to
    ended to w s o l =
        let z : length (word_from t i) ≡ 0 = ap length w in
        record {
          value = a-number (word_from t from) (sym r.digits ∙ ap all_digits w)
              (sym r.led ∙ ap (λ (x : List ℕ). no_leading_zero ((48 + v) ∷ x)) w)
              (omega (arith, r.size, r.few))
              ∙ ap some (sym r.value ∙ ap (value_from v) w);
          left = s ∙ ap past_space r.left;
          on = omega (arith, r.place);
          within = l;
        }

    -- a space ends the word
    pub reading-space : i < length t → get_or t i 0 ≡ space → WholeAt t from v (i + 1)
    reading-space h e =
        let w : in_word (get_or t i 0) ≡ false = ap in_word e in
        let b : past_space (after_word t i) ≡ drop (i + 1) t = ap past_space (following-stop t i h w)
        ∙ rw (add-one, drop-cons t i 0) (rw e) in
        ended (i + 1) (word-stop t i h w) (sym b) (omega arith) (omega arith)

    -- another blank does
    pub reading-stop : i < length t → get_or t i 0 < space → is_blank (get_or t i 0) ≡ true → WholeAt t from v i
    reading-stop h l e =
        let n : eqb (get_or t i 0) space ≡ false = ne_eqb (get_or t i 0) space (λ q. omega arith) in
        let b : past_space (after_word t i) ≡ drop i t = ap past_space (following-stop t i h (ap not e))
        ∙ rw (drop-cons t i 0) (rw n) in
        ended i (word-stop t i h (ap not e)) (sym b) (omega arith) r.within

    -- the text ends
    pub reading-end : length t ≤ i → WholeAt t from v i
    reading-end h =
        let b : past_space (after_word t i) ≡ drop i t = ap past_space (following-end t i h ∙ drop_of_length-le t h)
        ∙ sym (drop_of_length-le t h) in
        ended i (word_end t i h) (sym b) (omega arith) r.within

    -- and the loop went to its end
    pub reading_all : length t ≤ i → WholeAt t from v (length t)
    reading_all h =
        let e : i ≡ length t = (let w = r.within in omega arith) in
        subst (WholeAt t from v) e (reading-end h)

-- the word after the spaces is the next word
module _ (t : List ℕ) (at from : ℕ) (s : Scanned is_space t at from) where
  pub whole-next : (v to : ℕ) → WholeAt t from v to → NumberAt t at v to
  unfolding next_word past_word
  whole-next v to w = record {
    value = ap (λ (x : List ℕ). number (take_while in_word x)) (sym s.left) ∙ w.value;
    left = w.left ∙ ap (λ (x : List ℕ). past_space (drop_while in_word x)) s.left;
    on = omega (arith, s.on, w.on);
    within = w.within;
  }

  pub none-next : number (word_from t from) ≡ none → number (next_word (drop at t)) ≡ none
  unfolding next_word
  none-next w = ap (λ (x : List ℕ). number (take_while in_word x)) (sym s.left) ∙ w

-- ---- past the spaces

module _ (t : List ℕ) (at i : ℕ) (s : Scanning is_space t at i) where
  -- a digit stands after them
  pub at-digit : i < length t → is_digit (get_or t i 0) ≡ true → Scanned is_space t at i
  at-digit h d = scan-stop is_space t at i h (word-no-space (get_or t i 0) (digit-word (get_or t i 0) d)) s

  -- another byte
  pub number-other : i < length t → is_space (get_or t i 0) ≡ false → is_digit (get_or t i 0) ≡ false
      → number (next_word (drop at t)) ≡ none
  number-other h n d = none-next t at i (scan-stop is_space t at i h n s) (first-other t i h d)

  -- nothing
  pub number-missing : length t ≤ i → number (next_word (drop at t)) ≡ none
  number-missing h = none-next t at i (scan-end is_space t at i h s) (first-none t i h)

-- ---- one digit and a space after it

module _ (t : List ℕ) (at : ℕ) where
  pub digit-number : (x : ℕ) → at + 1 < length t → is_digit (get_or t at 0) ≡ true → get_or t (at + 1) 0 ≡ space → x
      ≡ get_or t at 0 - 48
      → (one_digit t at ≡ true) × NumberAt t at x (at + 2)
  digit-number x h d e v =
      let r : WholeAt t at x (at + 1 + 1) = reading-space t at x 0 (at + 1) (reading-start t at x (omega arith) d v) h e
      in
      let q : at + 1 + 1 ≡ at + 2 = omega arith in (
        rw (d, e),
        whole-next t at at (at-digit t at at (scan-start is_space t at (omega arith)) (omega arith) d) x
            (at + 2) (subst (WholeAt t at x) q r),
      )
