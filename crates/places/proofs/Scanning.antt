-- One line, one word and one byte more.
use Prim.Native.Nat.{ℕ, zero, suc, ◌+◌, ◌<◌, ◌≤◌}
use Rattle.std.specs.Prelude.{Some, None, cond}
use mathlib.Core.Path.{◌≡◌, refl, sym, ap, ◌∙◌}
use mathlib.Core.Bool.{Bool, true, false, ◌&&◌}
use mathlib.Core.List.{List, [], ◌∷◌}
use native.Mathlib.Numerals.{add-one}
use native.Mathlib.Omega.{arith}
use lib.Dec.{ltb}
use lib.ListN.{length, drop, get_or, drop_of_length-le}
use lib.Seq.{drop-cons}
use borrow.Author.Tests.{ltb-true, ltb-false}
use Rattle.netlist.specs.Text.{is_space, is_line_end}
use Rattle.netlist.specs.Read.{bytes_allowed}
use Rattle.netlist.proofs.Tests.{on_bool}
use Rattle.text.specs.Line.{is_blank, drop_while, next_line_of, next_lines_of, past_word, after_line}
use Rattle.text.specs.Answers.{allowed_before, fault_of}
use Rattle.text.specs.Cursors.{left, Scanned, LineTaken, WordIs}
use Rattle.text.specs.declared.cursor.Cursor.{Cursor}
use Rattle.text.proofs.AllowedBytes.{Testing, testing-start, testing-end, before_on}
use Rattle.places.specs.Bytes.{BytesIs}
use Rattle.places.specs.Positions.{words_on, from_word, line_after, column_after}

-- ---- lines

lines_suc : (k : ℕ) (s : List ℕ) → next_lines_of (suc k) s ≡ next_line_of (next_lines_of k s)
lines_suc zero s = refl
lines_suc (suc k) s = lines_suc k (next_line_of s)

lines_more : (k : ℕ) (s : List ℕ) → next_lines_of (k + 1) s ≡ next_line_of (next_lines_of k s)
lines_more k s = let e : k + 1 ≡ suc k = omega arith in ap (λ (n : ℕ). next_lines_of n s) e ∙ lines_suc k s

words_suc : (k : ℕ) (s : List ℕ) → words_on (suc k) s ≡ drop_while is_space (past_word (words_on k s))
words_suc zero s = refl
words_suc (suc k) s = words_suc k (drop_while is_space (past_word s))

words_more : (k : ℕ) (s : List ℕ) → words_on (k + 1) s ≡ drop_while is_space (past_word (words_on k s))
words_more k s = let e : k + 1 ≡ suc k = omega arith in ap (λ (n : ℕ). words_on n s) e ∙ words_suc k s

module _ (t : List ℕ) (k : ℕ) (here : Cursor) (e : here.text.now ≡ t) (p : drop here.at t ≡ from_word k 0 t) where
  there : left here ≡ drop_while is_blank (next_lines_of k t)
  unfolding from_word
  there = ap (drop here.at) e ∙ p

  pub line_on : (next to : Cursor) → LineTaken here next → Scanned is_blank next to → drop to.at t ≡ from_word (k + 1) 0 t
  unfolding from_word next_line_of
  line_on next to n s =
      ap (drop to.at) (sym e ∙ sym (ap (λ x. x.now) (s.same ∙ n.same)))
      ∙ s.rest ∙ ap (drop_while is_blank) (n.rest ∙ ap after_line there ∙ sym (lines_more k t))

module _ (t : List ℕ) (line k : ℕ) (here : Cursor) (e : here.text.now ≡ t) (p : drop here.at t ≡ from_word line k t) where
  pub word_on : (w : List ℕ) (end to : Cursor) → WordIs here w end → Scanned is_space end to → drop to.at t
      ≡ from_word line (k + 1) t
  unfolding from_word
  word_on w end to n s =
      ap (drop to.at) (sym e ∙ sym (ap (λ x. x.now) (s.same ∙ n.same)))
      ∙ s.rest
      ∙ ap (drop_while is_space) (n.rest ∙ ap past_word (ap (drop here.at) e ∙ p))
      ∙ sym (words_more k (drop_while is_blank (next_lines_of line t)))

-- ---- bytes

-- each byte before place i is allowed
pub record Allowed (t : List ℕ) (i : ℕ) : Type 0 where
  pub earlier : (j : ℕ) → j < i → allowed_before (get_or t j 0) (get_or t (j + 1) 0) ≡ true
  pub testing : Testing bytes_allowed t 0 i

module _ (t : List ℕ) where
  pub allowed-start : Allowed t 0
  allowed-start = record { earlier = λ j h. absurd (omega arith); testing = testing-start bytes_allowed t }

  pub allowed-on : (i : ℕ) → i < length t → allowed_before (get_or t i 0) (get_or t (i + 1) 0) ≡ true → Allowed t i
      → Allowed t (i + 1)
  allowed-on i h e a = record {
    earlier = λ j k. on_bool (ltb j i) (λ b. a.earlier j (ltb-true j i b))
        (λ b. let n = ltb-false j i b in let q : j ≡ i = omega arith in
        ap (λ (x : ℕ). allowed_before (get_or t x 0) (get_or t (x + 1) 0)) q ∙ e);
    testing = before_on t 0 0 i h (sym (ap fault_of e)) a.testing;
  }

  pub allowed-not : (i : ℕ) → i < length t → allowed_before (get_or t i 0) (get_or t (i + 1) 0) ≡ false → Allowed t i
      → BytesIs t (Some i)
  allowed-not i h e a =
      (record { within = h; earlier = a.earlier; here = e }, go (before_on t 0 1 i h (sym (ap fault_of e)) a.testing))
    where
      go : Testing bytes_allowed t 1 (i + 1) → bytes_allowed t ≡ false
      go k = on k.passed k.told k.all
        where
          on : (b : Bool) → 1 ≡ fault_of b → (b && bytes_allowed (drop (i + 1) t)) ≡ bytes_allowed t → bytes_allowed t
              ≡ false
          on true p q = absurd (omega (arith, p))
          on false p q = sym q

  pub allowed-all : (i : ℕ) → length t ≤ i → Allowed t i → BytesIs t None
  allowed-all i h a = sym (testing-end bytes_allowed t 0 i refl h a.testing)

-- ---- lines and columns

module _ (t : List ℕ) (i : ℕ) (h : i < length t) where
  byte : drop i t ≡ get_or t i 0 ∷ drop (i + 1) t
  byte = rw (add-one, drop-cons t i 0)

  pub line_step : (n : ℕ) (b : Bool) → is_line_end (get_or t i 0) ≡ b → line_after n (drop i t)
      ≡ line_after (cond b (n + 1) n) (drop (i + 1) t)
  line_step n b e = ap (line_after n) byte ∙ ap (λ (c : Bool). line_after (cond c (n + 1) n) (drop (i + 1) t)) e

  pub column_step : (n : ℕ) (b : Bool) → is_line_end (get_or t i 0) ≡ b → column_after n (drop i t)
      ≡ column_after (cond b 1 (n + 1)) (drop (i + 1) t)
  column_step n b e = ap (column_after n) byte ∙ ap (λ (c : Bool). column_after (cond c 1 (n + 1)) (drop (i + 1) t)) e

-- the line and the column before place i, which are those of the whole text by what follows
pub record Standing (t : List ℕ) (line column i : ℕ) : Type 0 where
  pub lines : line_after line (drop i t) ≡ line_after 1 t
  pub columns : column_after column (drop i t) ≡ column_after 1 t
  pub few : line ≤ i + 1
  pub short : column ≤ i + 1

module _ (t : List ℕ) (line column i : ℕ) (s : Standing t line column i) where
  pub standing-end : i < length t → is_line_end (get_or t i 0) ≡ true → Standing t (line + 1) 1 (i + 1)
  standing-end h e = record {
    lines = sym (line_step t i h line true e) ∙ s.lines;
    columns = sym (column_step t i h column true e) ∙ s.columns;
    few = omega (arith, s.few);
    short = omega arith;
  }

  pub standing-on : i < length t → is_line_end (get_or t i 0) ≡ false → Standing t line (column + 1) (i + 1)
  standing-on h e = record {
    lines = sym (line_step t i h line false e) ∙ s.lines;
    columns = sym (column_step t i h column false e) ∙ s.columns;
    few = omega (arith, s.few);
    short = omega (arith, s.short);
  }

  pub standing-last : length t ≤ i → (line ≡ line_after 1 t) × (column ≡ column_after 1 t)
  standing-last h =
      let n : drop i t ≡ [] = drop_of_length-le t h in
      (sym (ap (line_after line) n) ∙ s.lines, sym (ap (column_after column) n) ∙ s.columns)
