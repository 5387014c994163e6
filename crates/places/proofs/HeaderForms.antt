-- The numbers of a header line, one after another, and the lines of a header.
use Prim.Native.Nat.{ℕ, suc, ◌+◌, ◌≤◌}
use mathlib.Core.Path.{◌≡◌, refl, sym, ap, ◌∙◌}
use mathlib.Core.Bool.{Bool, cond, true, false, ◌&&◌, and-true, and_assoc}
use mathlib.Core.List.{List, [], ◌∷◌, ◌++◌, append_assoc, append-nil}
use mathlib.Core.Option.{Option, none, some}
use native.Mathlib.Omega.{arith}
use lib.Dec.{leb, ltb, eqb}
use lib.ListN.{length, drop, get_or, length-append}
use Rattle.std.proofs.lemmas.List.{get_or-drop}
use borrow.Author.Tests.{ltb-true, ltb-false, eqb-true}
use Rattle.netlist.specs.Lists.{every}
use Rattle.netlist.specs.Number.{number}
use Rattle.netlist.specs.Text.{word_lines, words}
use Rattle.netlist.specs.Header.{header, numbers, cons_option, values, make_header}
use Rattle.netlist.proofs.Tests.{clash, on_bool}
use Rattle.netlist.proofs.Questions.{none-some}
use Rattle.text.specs.Line.{line_words, next_word, is_empty, is_blank, drop_while, next_lines_of}
use Rattle.text.specs.Cursors.{left, NumberAt}
use Rattle.text.specs.declared.cursor.Cursor.{Cursor}
use Rattle.text.proofs.Answering.{no_number}
use Rattle.text.proofs.Splitting.{blank-lines}
use Rattle.text.proofs.Lines.{AtWord, word_line, following-lines}
use Rattle.reader.proofs.WidthLines.{numbers_on}
use Rattle.places.specs.Positions.{from_word, Stands}
use Rattle.places.specs.HeaderLines.{header_form, HeaderRefused, RestAre}

-- numbers in front of numbers
abbrev joined : List ℕ → Option (List ℕ) → Option (List ℕ)
joined ns none = none
joined ns (some ms) = some (ns ++ ms)

joined-nil : (o : Option (List ℕ)) → o ≡ joined [] o
joined-nil none = refl
joined-nil (some ms) = refl

joined-more : (ns : List ℕ) (v : ℕ) (o : Option (List ℕ)) → joined ns (cons_option (some v) o)
    ≡ joined (ns ++ (v ∷ [])) o
joined-more ns v none = refl
joined-more ns v (some ms) = ap some (sym (append_assoc ns (v ∷ []) ms))

every_more : (f : ℕ → Bool) (xs : List ℕ) (x : ℕ) → every f (xs ++ (x ∷ [])) ≡ (every f xs && f x)
every_more f [] x = and-true (f x)
every_more f (y ∷ ys) x = ap (λ (b : Bool). f y && b) (every_more f ys x) ∙ sym (and_assoc (f y) (every f ys) (f x))

-- n numbers were read from c on, each of them 1 or more or not, and i is the place after them
pub record Numbering (c : Cursor) (i n : ℕ) (p : Bool) : Type 0 where
  pub seen : List ℕ
  pub line : numbers (line_words (left c)) ≡ joined seen (numbers (line_words (drop i c.text.now)))
  pub size : length seen ≡ n
  pub ones : every (leb 1) seen ≡ p
  pub few : n ≤ i

module _ (c : Cursor) where
  pub numbering-start : Numbering c c.at 0 true
  numbering-start = record {
    seen = [];
    line = joined-nil (numbers (line_words (left c)));
    size = refl;
    ones = refl;
    few = omega arith;
  }

  module _ (d : Cursor) (e : d.text ≡ c.text) (n : ℕ) (p : Bool) (w : Numbering c d.at n p) where
    here : drop d.at c.text.now ≡ left d
    here = ap (λ t. drop d.at t.now) (sym e)

    line-here : numbers (line_words (left c)) ≡ joined w.seen (numbers (line_words (left d)))
    line-here = rw here at w.line

    pub numbering-on : (v : ℕ) (j : Cursor) → NumberAt d v j → Numbering c j.at (n + 1) (p && leb 1 v)
    numbering-on v j a =
        let there : left j ≡ drop j.at c.text.now = ap (λ t. drop j.at t.now) (a.same ∙ e) in
        record {
          seen = w.seen ++ (v ∷ []);
          line = rw there at (line-here ∙ ap (joined w.seen) (numbers_on d v j a)
              ∙ joined-more w.seen v (numbers (line_words (left j))));
          size = length-append w.seen (v ∷ []) ∙ omega (arith, w.size);
          ones = every_more (leb 1) w.seen v ∙ ap (λ (b : Bool). b && leb 1 v) w.ones;
          few = omega (arith, w.few, a.on);
        }

    pub numbering-end : line_words (left d) ≡ [] → RestAre c n p
    numbering-end f = record {
      seen = w.seen;
      line = line-here ∙ ap (λ (l : List (List ℕ)). joined w.seen (numbers l)) f ∙ ap some (append-nil w.seen);
      count = w.size;
      positive = w.ones;
    }

    pub numbering-not : number (next_word (left d)) ≡ none → is_empty (line_words (left d)) ≡ false
        → numbers (line_words (left c)) ≡ none
    unfolding is_empty
    numbering-not h f =
        line-here
        ∙ no_number (λ ws. is_empty ws ≡ false → joined w.seen (numbers ws) ≡ none) (left d) h
        (λ e. clash (cc)) (λ v ws e g. rw e) f

-- ---- the forms of the lines

pub pair_form : (c : Cursor) (n : ℕ) (p : Bool) → RestAre c n p → eqb n 2 ≡ header_form 0 (numbers (line_words (left c)))
pair_form c n p r = sym (ap (header_form 0) r.line ∙ ap (λ (k : ℕ). eqb k 2) r.count)

pub no_form : (c : Cursor) (k : ℕ) → numbers (line_words (left c)) ≡ none → false
    ≡ header_form k (numbers (line_words (left c)))
no_form c k e = sym (ap (header_form k) e)

module _ (at : Cursor) (v : ℕ) (on : Cursor) (a : NumberAt at v on) where
  pub values_form : (n : ℕ) (p : Bool) → RestAre on n p → (leb 1 v && eqb v n && p)
      ≡ header_form 1 (numbers (line_words (left at)))
  values_form n p r =
      sym (ap (header_form 1) (numbers_on at v on a ∙ ap (cons_option (some v)) r.line) ∙ rw (r.count, r.positive) refl)

  pub values-not : numbers (line_words (left on)) ≡ none → false ≡ header_form 1 (numbers (line_words (left at)))
  values-not e = sym (ap (header_form 1) (numbers_on at v on a ∙ ap (cons_option (some v)) e))

pub values-off : (s : List ℕ) → number (next_word s) ≡ none → false ≡ header_form 1 (numbers (line_words s))
values-off s h = sym (no_number (λ ws. header_form 1 (numbers ws) ≡ false) s h refl (λ w ws e. rw e))

-- ---- line k of a text

still : (s : List ℕ) → drop_while is_blank (drop_while is_blank s) ≡ drop_while is_blank s
still [] = refl
still (x ∷ xs) = go (is_blank x) refl (still xs)
  where
    go : (b : Bool) → is_blank x ≡ b → drop_while is_blank (drop_while is_blank xs) ≡ drop_while is_blank xs
        → drop_while is_blank (cond b (drop_while is_blank xs) (x ∷ xs)) ≡ cond b (drop_while is_blank xs) (x ∷ xs)
    go true e h = h
    go false e h = rw e

first_of : (s : List ℕ) → line_words (drop_while is_blank s) ≡ get_or (word_lines s) 0 []
unfolding word_lines line_words words
first_of s = go (drop_while is_blank s) refl
  where
    go : (u : List ℕ) → drop_while is_blank s ≡ u → line_words u ≡ get_or (word_lines s) 0 []
    go [] e = ap (λ (ls : List (List (List ℕ))). get_or ls 0 []) (sym (ap word_lines e) ∙ blank-lines s)
    go (x ∷ xs) e =
        let at : AtWord (x ∷ xs) 0
        = record { still = sym e ∙ sym (still s) ∙ ap (drop_while is_blank) e; within = omega arith } in
        sym (ap (λ (ls : List (List (List ℕ))). get_or ls 0 [])
        (sym (blank-lines s) ∙ ap word_lines e ∙ word_line (x ∷ xs) 0 (omega arith) at))

line_words_at : (t : List ℕ) (k at : ℕ) → drop at t ≡ from_word k 0 t → line_words (drop at t)
    ≡ get_or (word_lines t) k []
unfolding from_word
line_words_at t k at p =
    ap line_words p ∙ first_of (next_lines_of k t)
    ∙ ap (λ (ls : List (List (List ℕ))). get_or ls 0 []) (following-lines k t)
    ∙ get_or-drop k (word_lines t) 0 [] ∙ (let e : k + 0 ≡ k = omega arith in
    ap (λ (n : ℕ). get_or (word_lines t) n []) e)

-- a test of the line at a place is one of line k
pub form_at : (t : List ℕ) (k j : ℕ) (c : Cursor) (b : Bool) → Stands t k 0 c.at → c.text.now ≡ t
    → b ≡ header_form j (numbers (line_words (left c)))
    → header_form j (numbers (get_or (word_lines t) k [])) ≡ b
form_at t k j c b s e h = sym (h ∙ ap (λ (l : List (List ℕ)). header_form j (numbers l))
    (ap (λ (x : List ℕ). line_words (drop c.at x)) e ∙ line_words_at t k c.at s.place))

-- ---- three lines

abbrev form : List (List (List ℕ)) → ℕ → Bool
form ls k = header_form k (numbers (get_or ls k []))

is_pair : (o : Option (List ℕ)) → header_form 0 o ≡ true → (g : ℕ) × (w : ℕ) × (o ≡ some (g ∷ w ∷ []))
is_pair none e = clash (cc)
is_pair (some []) e = clash (cc)
is_pair (some (g ∷ [])) e = clash (cc)
is_pair (some (g ∷ (w ∷ []))) e = (g, w, refl)
is_pair (some (g ∷ (w ∷ (x ∷ xs)))) e = let n : suc (suc (suc (length xs))) ≡ 2 = eqb-true _ _ e in absurd (omega (arith, n))

are_values : (k : ℕ) (o : Option (List ℕ)) → header_form (suc k) o ≡ true → (ws : List ℕ) × (values o ≡ some ws)
are_values k none e = clash (cc)
are_values k (some []) e = clash (cc)
are_values k (some (x ∷ ws)) e = (ws, rw e)

made : (o i u : Option (List ℕ)) (g w : ℕ) (is os : List ℕ) → o ≡ some (g ∷ w ∷ []) → i ≡ some is → u ≡ some os
    → make_header o i u ≡ some (record { count = g; wires = w; inputs = is; outputs = os })
made o i u g w is os p q r = rw (p, q, r) refl

-- a text without a header whose first two header lines are of their forms
pub third : (ls : List (List (List ℕ))) → header ls ≡ none → form ls 0 ≡ true → form ls 1 ≡ true → form ls 2 ≡ false
third [] h a b = refl
third (x ∷ []) h a b = refl
third (x ∷ (y ∷ [])) h a b = refl
third (x ∷ (y ∷ (z ∷ ls))) h a b = on_bool (header_form 2 (numbers z)) (λ e. absurd (all e)) (λ e. e)
  where
    all : header_form 2 (numbers z) ≡ true → ⊥
    all e =
        let p = is_pair (numbers x) a in
        let v = are_values 0 (numbers y) b in
        let u = are_values 1 (numbers z) e in
        let k : header (x ∷ (y ∷ (z ∷ ls)))
        ≡ some (record { count = p.0; wires = p.1; inputs = v.0; outputs = u.0 }) = made (numbers x) (values (numbers y)) (values (numbers z)) _ _ _ _ p.2 v.1 u.1 in
        none-some _ (sym h ∙ k)

pub refused-0 : (ls : List (List (List ℕ))) → form ls 0 ≡ false → HeaderRefused ls 0
refused-0 ls e = record { which = omega arith; earlier = λ j h. absurd (omega arith); here = e }

pub refused-1 : (ls : List (List (List ℕ))) → form ls 0 ≡ true → form ls 1 ≡ false → HeaderRefused ls 1
refused-1 ls a e = record {
  which = omega arith;
  earlier = λ j h. (let z : j ≡ 0 = omega arith in ap (form ls) z ∙ a);
  here = e;
}

pub refused-2 : (ls : List (List (List ℕ))) → header ls ≡ none → form ls 0 ≡ true → form ls 1 ≡ true
    → HeaderRefused ls 2
refused-2 ls h a b = record {
  which = omega arith;
  earlier = λ j l. on_bool (ltb j 1) (λ t. (let m = ltb-true j 1 t in let z : j ≡ 0 = omega arith in ap (form ls) z ∙ a))
      (λ t. (let m = ltb-false j 1 t in let z : j ≡ 1 = omega arith in ap (form ls) z ∙ b));
  here = third ls h a b;
}
