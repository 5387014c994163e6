-- The three header lines together.
use Prim.Native.Nat.{ℕ}
use mathlib.Core.Path.{◌≡◌, refl, sym, ap, ◌∙◌, subst}
use mathlib.Core.Bool.{false}
use mathlib.Core.List.{List, [], ◌∷◌}
use mathlib.Core.Option.{Option, none, some}
use native.Mathlib.Omega.{arith}
use lib.Dec.{ltb}
use lib.ListN.{length, drop}
use borrow.Author.Tests.{ltb-true, ltb-false}
use Rattle.netlist.specs.Number.{number}
use Rattle.netlist.specs.Text.{word_lines}
use Rattle.netlist.specs.Header.{header, make_header, numbers, cons_option, values}
use Rattle.netlist.proofs.Tests.{clash, on_bool}
use Rattle.netlist.proofs.Questions.{none-some}
use Rattle.text.specs.Line.{line_words, next_word, after_line, next_line_of, is_blank, is_empty}
use Rattle.text.specs.Cursors.{left, Scanned, LineTaken, EndAt, NumberAt}
use Rattle.text.specs.declared.cursor.Cursor.{Cursor}
use Rattle.text.proofs.Splitting.{add_line, lines_step}
use Rattle.text.proofs.Answering.{number-line, no_number}
use Rattle.text.proofs.Lines.{word_line, no_line, following-lines}
use Rattle.text.proofs.Cursors.{stands-at-word, lines-following-blanks, following-its-line}
use Rattle.dialect.specs.declared.Dialect.{Dialect}
use Rattle.dialect.specs.Dialects.{header_lines}
use Rattle.reader.specs.HeaderAnswers.{pair_only, CountsAt, WidthsAt, HeaderOf, HeaderAt}
use Rattle.reader.specs.declared.header_lines.HeaderNumbers.{HeaderNumbers}
use Rattle.reader.proofs.WidthLines.{numbers_on}

-- the gate lines stand after the place
pub header-left : {d : Dialect} {t ins outs : List ℕ} {h : HeaderNumbers} {to : Cursor} → HeaderOf d t ins outs h to
    → word_lines (left to) ≡ drop (header_lines d) (word_lines t)
header-left {d} {t} a = ap word_lines a.place ∙ following-lines (header_lines d) t

-- ---- line one

pub pair-first : (s : List ℕ) → number (next_word s) ≡ none → pair_only (numbers (line_words s)) ≡ none
pair-first s h = no_number (λ ws. pair_only (numbers ws) ≡ none) s h refl (λ w ws e. rw e)

pub pair-second : (at : Cursor) (g : ℕ) (c : Cursor) → NumberAt at g c → number (next_word (left c)) ≡ none
    → pair_only (numbers (line_words (left at))) ≡ none
pair-second at g c a h =
    ap pair_only (numbers_on at g c a) ∙ no_number (λ ws. pair_only (cons_option (some g) (numbers ws)) ≡ none) (left c)
    h refl (λ w ws e. rw e)

module _ (at : Cursor) (g : ℕ) (c : Cursor) (w : ℕ) (d : Cursor) (a : NumberAt at g c) (b : NumberAt c w d) where
  pair-on : numbers (line_words (left at)) ≡ cons_option (some g) (cons_option (some w) (numbers (line_words (left d))))
  pair-on = numbers_on at g c a ∙ ap (cons_option (some g)) (numbers_on c w d b)

  pub pair-more : is_empty (line_words (left d)) ≡ false → pair_only (numbers (line_words (left at))) ≡ none
  unfolding is_empty
  pair-more h = ap pair_only pair-on ∙ go (line_words (left d)) h
    where
      third : (o : Option ℕ) (q : Option (List ℕ)) → pair_only
          (cons_option (some g) (cons_option (some w) (cons_option o q))) ≡ none
      third none q = refl
      third (some x) none = refl
      third (some x) (some xs) = refl

      go : (ws : List (List ℕ)) → is_empty ws ≡ false → pair_only
          (cons_option (some g) (cons_option (some w) (numbers ws))) ≡ none
      go [] e = clash (cc)
      go (x ∷ xs) e = third (number x) (numbers xs)

  pub pair-good : (to : Cursor) → EndAt d to → CountsAt at g w to
  pair-good to e = record {
    line = ap pair_only pair-on ∙ ap (λ (ws : List (List ℕ)). pair_only
        (cons_option (some g) (cons_option (some w) (numbers ws)))) e.none;
    next = record {
      rest = e.rest ∙ number-line c w d b ∙ number-line at g c a;
      on = omega (arith, a.on, b.on, e.on);
      same = e.same ∙ b.same ∙ a.same;
    };
  }

-- ---- lines that are there

some-not-none : (ws : List ℕ) → ◌≡◌ {A = Option (List ℕ)} none (some ws) → ⊥
some-not-none ws e = none-some ws e

-- a line that has what no line without words has is the first line
pub read-line : {A : Type 0} (f : List (List ℕ) → Option A) → f [] ≡ none → (a : Cursor) (ws : A) (b : Cursor)
    → f (line_words (left a)) ≡ some ws
    → LineTaken a b
    → word_lines (left a) ≡ line_words (left a) ∷ word_lines (left b)
read-line f empty a ws b e n =
    lines_step (left a) ∙ go (line_words (left a)) e ∙ ap (λ (s : List ℕ). line_words (left a) ∷ word_lines s)
    (sym n.rest)
  where
    go : (l : List (List ℕ)) → f l ≡ some ws → add_line l (word_lines (after_line (left a)))
        ≡ l ∷ word_lines (after_line (left a))
    go [] h = absurd (none-some ws (sym empty ∙ h))
    go (w ∷ l) h = refl

-- the first line, where there is one, has none of it
abbrev pub Without : {A : Type 0} → (List (List ℕ) → Option A) → List (List (List ℕ)) → Type 0
Without f [] = Unit {0}
Without f (l ∷ ls) = f l ≡ none

pub first-line : {A : Type 0} (f : List (List ℕ) → Option A) (c i : Cursor) → Scanned is_blank c i
    → f (line_words (left i)) ≡ none
    → Without f (word_lines (left i))
first-line f c i s e = on_bool (ltb i.at (length i.text.now))
    (λ h. subst (Without f)
    (sym (word_line i.text.now i.at (ltb-true i.at (length i.text.now) h) (stands-at-word c i s))) e)
    (λ h. subst (Without f) (sym (no_line i.text.now i.at (ltb-false i.at (length i.text.now) h))) tt)

-- ---- the header of lines

abbrev pub pair_of : List (List ℕ) → Option (List ℕ)
pair_of l = pair_only (numbers l)

abbrev values_of : List (List ℕ) → Option (List ℕ)
values_of l = values (numbers l)

pub pair_is : (o : Option (List ℕ)) (ws : List ℕ) → pair_only o ≡ some ws → o ≡ some ws
pair_is none ws e = e
pair_is (some []) ws e = absurd (some-not-none ws e)
pair_is (some (g ∷ [])) ws e = absurd (some-not-none ws e)
pair_is (some (g ∷ (w ∷ []))) ws e = e
pair_is (some (g ∷ (w ∷ (x ∷ xs)))) ws e = absurd (some-not-none ws e)

pub no-pair : (o i u : Option (List ℕ)) → pair_only o ≡ none → make_header o i u ≡ none
no-pair none i u e = refl
no-pair (some []) i u e = refl
no-pair (some (g ∷ [])) i u e = refl
no-pair (some (g ∷ (w ∷ []))) i u e = absurd (some-not-none _ (sym e))
no-pair (some (g ∷ (w ∷ (x ∷ xs)))) i u e = refl

header-1 : (ls : List (List (List ℕ))) → Without pair_of ls → header ls ≡ none
header-1 [] e = refl
header-1 (a ∷ []) e = refl
header-1 (a ∷ (b ∷ [])) e = refl
header-1 (a ∷ (b ∷ (c ∷ ls))) e = no-pair (numbers a) (values (numbers b)) (values (numbers c)) e

header-2 : (a : List (List ℕ)) (g w : ℕ) (ls : List (List (List ℕ))) → numbers a ≡ some (g ∷ w ∷ [])
    → Without values_of ls → header (a ∷ ls) ≡ none
header-2 a g w [] p e = refl
header-2 a g w (b ∷ []) p e = refl
header-2 a g w (b ∷ (c ∷ ls)) p e = rw (p, e)

header-3 : (a b : List (List ℕ)) (g w : ℕ) (is : List ℕ) (ls : List (List (List ℕ))) → numbers a ≡ some (g ∷ w ∷ [])
    → values (numbers b) ≡ some is
    → Without values_of ls → header (a ∷ (b ∷ ls)) ≡ none
header-3 a b g w is [] p q e = refl
header-3 a b g w is (c ∷ ls) p q e = rw (p, q, e)

-- ---- the header of a text: line one stands at a, line two at b' after b, line three at d' after d

module _ (z a : Cursor) (sa : Scanned is_blank z a) where
  pub start : word_lines (left z) ≡ word_lines (left a)
  start = sym (lines-following-blanks z a sa)

  pub no-header-1 : pair_only (numbers (line_words (left a))) ≡ none → header (word_lines (left z)) ≡ none
  no-header-1 e = ap header start ∙ header-1 (word_lines (left a)) (first-line pair_of z a sa e)

  module _ (g w : ℕ) (b : Cursor) (c : CountsAt a g w b) (b' : Cursor) (sb : Scanned is_blank b b') where
    pub one : word_lines (left z) ≡ line_words (left a) ∷ word_lines (left b')
    one =
        start ∙ read-line pair_of refl a _ b c.line c.next
        ∙ ap (λ (ls : List (List (List ℕ))). line_words (left a) ∷ ls) (sym (lines-following-blanks b b' sb))

    pub pair : numbers (line_words (left a)) ≡ some (g ∷ w ∷ [])
    pair = pair_is _ _ c.line

    pub no-header-2 : values (numbers (line_words (left b'))) ≡ none → header (word_lines (left z)) ≡ none
    no-header-2 e = ap header one ∙ header-2 (line_words (left a)) g w (word_lines (left b')) pair
        (first-line values_of b b' sb e)

    module _ (ins : List ℕ) (ni si : ℕ) (d : Cursor) (x : WidthsAt b' (values (numbers (line_words (left b')))) ins ni
        si d) (d' : Cursor)
        (sd : Scanned is_blank d d') where
      two : word_lines (left z) ≡ line_words (left a) ∷ (line_words (left b') ∷ word_lines (left d'))
      two =
          one
          ∙ ap (λ (ls : List (List (List ℕ))). line_words (left a) ∷ ls)
          (read-line values_of refl b' _ d x.line x.next
          ∙ ap (λ (ls : List (List (List ℕ))). line_words (left b') ∷ ls) (sym (lines-following-blanks d d' sd)))

      pub no-header-3 : values (numbers (line_words (left d'))) ≡ none → header (word_lines (left z)) ≡ none
      no-header-3 e =
          ap header two
          ∙ header-3 (line_words (left a)) (line_words (left b')) g w x.ws (word_lines (left d')) pair x.line
          (first-line values_of d d' sd e)

      pub a-header : (outs : List ℕ) (mo so : ℕ) (to : Cursor) → left z ≡ z.text.now
          → WidthsAt d' (values (numbers (line_words (left d')))) outs mo so to
          → HeaderAt z.text.now ins outs (record {
            gates = g;
            wires = w;
            input_values = ni;
            input_bits
                = si;
            output_values = mo;
            output_bits = so;
          }) to
      a-header outs mo so to e y =
          let three : word_lines (left z) ≡ line_words (left a) ∷
          (line_words (left b') ∷ (line_words (left d') ∷ word_lines (left to)))
          = two
          ∙ ap (λ (ls : List (List (List ℕ))). line_words (left a) ∷ (line_words (left b') ∷ ls))
          (read-line values_of refl d' _ to y.line y.next) in
          record {
            is = record { count = g; wires = w; inputs = x.ws; outputs = y.ws };
            read = ap (λ (t : List ℕ). header (word_lines t)) (sym e) ∙ ap header three ∙ rw (pair, x.line, y.line);
            gates = refl;
            wires = refl;
            inputs = x.size;
            input_bits = x.all;
            outputs = y.size;
            output_bits = y.all;
            kept_in = x.kept;
            kept_out = y.kept;
            place = following-its-line d d' sd to y.next ∙ ap next_line_of
                (following-its-line b b' sb d x.next ∙ ap next_line_of (following-its-line z a sa b c.next
                ∙ ap next_line_of e));
            same = ap (λ t. t.now) (y.next.same ∙ sd.same ∙ x.next.same ∙ sb.same ∙ c.next.same ∙ sa.same);
          }
