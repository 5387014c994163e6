-- A line of numbers, read one after another, and a line of values.
use Prim.Native.Nat.{ℕ, ◌+◌, ◌*◌, ◌<◌, ◌≤◌}
use mathlib.Core.Path.{◌≡◌, refl, sym, ap, ◌∙◌}
use mathlib.Core.Bool.{Bool, true, false, cond, ◌&&◌, and-true, and-false, and_assoc}
use mathlib.Core.List.{List, [], ◌∷◌, ◌++◌, append_assoc, append-nil}
use mathlib.Core.Option.{Option, none, some}
use native.Mathlib.Omega.{arith}
use lib.Dec.{leb, ltb, eqb}
use lib.ListN.{length, drop, get_or, set, length-set, length-append, get_or-append}
use lib.Seq.{get_or-set_same, get_or-set_other, get_or_at}
use borrow.Author.Tests.{le-leb, ltb-true, ltb-false, eq-eqb, ne_eqb}
use Rattle.netlist.specs.Lists.{every, sum}
use Rattle.netlist.specs.Number.{number}
use Rattle.netlist.specs.Header.{numbers, cons_option, values}
use Rattle.netlist.proofs.Tests.{clash, on_bool, sum-snoc}
use Rattle.netlist.proofs.HeaderFacts.{number_fits}
use Rattle.text.specs.Line.{line_words, next_word, after_line, is_empty}
use Rattle.text.specs.Cursors.{left, NumberAt, EndAt}
use Rattle.text.specs.declared.cursor.Cursor.{Cursor}
use Rattle.text.proofs.Answering.{number_word, number-line, no_number}
use Rattle.reader.specs.HeaderAnswers.{Kept, positives, WidthsAt}

-- ---- the numbers of a line

pub numbers_on : (c : Cursor) (v : ℕ) (d : Cursor) → NumberAt c v d → numbers (line_words (left c))
    ≡ cons_option (some v) (numbers (line_words (left d)))
numbers_on c v d n = ap numbers (number_word c v d n) ∙ rw n.value

-- numbers in front of numbers
abbrev joined : List ℕ → Option (List ℕ) → Option (List ℕ)
joined ns none = none
joined ns (some ms) = some (ns ++ ms)

joined-nil : (o : Option (List ℕ)) → o ≡ joined [] o
joined-nil none = refl
joined-nil (some ms) = refl

joined-more : (ns : List ℕ) (v : ℕ) (o : Option (List ℕ)) → joined ns (cons_option (some v) o)
    ≡ joined (ns ++ (v ∷ [])) o
joined-more ns v none = refl
joined-more ns v (some ms) = ap some (sym (append_assoc ns (v ∷ []) ms))

every_append : (p : ℕ → Bool) (a b : List ℕ) → every p (a ++ b) ≡ (every p a && every p b)
every_append p [] b = refl
every_append p (x ∷ a) b = ap (◌&&◌ (p x)) (every_append p a b) ∙ sym (and_assoc (p x) (every p a) (every p b))

pub kept_more : (table seen : List ℕ) (n v : ℕ) → length seen ≡ n → Kept table seen
    → Kept (set table n v) (seen ++ (v ∷ []))
kept_more table seen n v size k i h' l = on_bool (ltb i n) before at
  where
    h : i < length table
    h = rw length-set at h'

    before : ltb i n ≡ true → get_or (set table n v) i 0 ≡ get_or (seen ++ (v ∷ [])) i 0
    before e =
        let p : i < n = ltb-true i n e in
        get_or-set_other table n i v 0 (λ q. omega arith) ∙ k i h (omega arith)
        ∙ sym (get_or-append seen (v ∷ []) 0 i (omega arith))

    at : ltb i n ≡ false → get_or (set table n v) i 0 ≡ get_or (seen ++ (v ∷ [])) i 0
    at e =
        let p : n ≤ i = ltb-false i n e in
        let q : i ≡ n = omega (arith, length-append seen (v ∷ [])) in
        ap (λ (m : ℕ). get_or (set table n v) m 0) q ∙ get_or-set_same table n v 0 (omega (arith, h))
        ∙ sym (ap (λ (m : ℕ). get_or (seen ++ (v ∷ [])) m 0) q ∙ get_or_at seen v [] 0 n size)

-- ---- widths up to the line's end

-- n widths of the sum s were read, and i is the place after them
pub record Widening (c : Cursor) (table : List ℕ) (i n s : ℕ) : Type 0 where
  pub seen : List ℕ
  pub line : numbers (line_words (left c)) ≡ joined seen (numbers (line_words (drop i c.text.now)))
  pub ones : every (leb 1) seen ≡ true
  pub size : length seen ≡ n
  pub all : sum seen ≡ s
  pub small : s ≤ n * 4294967295
  pub few : n ≤ i
  pub kept : Kept table seen
  pub after : after_line (drop i c.text.now) ≡ after_line (left c)
  pub on : c.at ≤ i
  pub within : i ≤ length c.text.now

module _ (c : Cursor) where
  pub widen-start : (table : List ℕ) → Widening c table c.at 0 0
  widen-start table = record {
    seen = [];
    line = joined-nil (numbers (line_words (left c)));
    ones = refl;
    size = refl;
    all = refl;
    small = omega arith;
    few = omega arith;
    kept = λ i a b. absurd (omega arith);
    after = refl;
    on = omega arith;
    within = c.within;
  }

  module _ (table : List ℕ) (d : Cursor) (e : d.text ≡ c.text) (n s : ℕ) (w : Widening c table d.at n s) where
    here : drop d.at c.text.now ≡ left d
    here = ap (λ t. drop d.at t.now) (sym e)

    line-here : numbers (line_words (left c)) ≡ joined w.seen (numbers (line_words (left d)))
    line-here = rw here at w.line

    after-here : after_line (left d) ≡ after_line (left c)
    after-here = rw here at w.after

    -- one width more
    pub widen-on : (v : ℕ) (j : Cursor) → (v ≡ 0 → ⊥) → NumberAt d v j → Widening c (set table n v) j.at (n + 1) (s + v)
    widen-on v j pos a =
        let one : 1 ≤ v = omega arith in
        let there : left j ≡ drop j.at c.text.now = ap (λ t. drop j.at t.now) (a.same ∙ e) in
        let last = j.within in
        record {
          seen = w.seen ++ (v ∷ []);
          line = rw there at (line-here ∙ ap (joined w.seen) (numbers_on d v j a)
              ∙ joined-more w.seen v (numbers (line_words (left j))));
          ones = every_append (leb 1) w.seen (v ∷ []) ∙ rw w.ones (rw (le-leb 1 v one));
          size = length-append w.seen (v ∷ []) ∙ omega (arith, w.size);
          all = sum-snoc w.seen v ∙ ap (λ (x : ℕ). x + v) w.all;
          small = omega (arith, w.small, number_fits _ v a.value);
          few = omega (arith, w.few, a.on);
          kept = kept_more table w.seen n v w.size w.kept;
          after = rw there at (number-line d v j a ∙ after-here);
          on = omega (arith, w.on, a.on);
          within = rw (a.same ∙ e) at last;
        }

    -- the line ends
    pub widen-end : (to : Cursor) → EndAt d to → WidthsAt c (positives (numbers (line_words (left c)))) table n s to
    widen-end to f = record {
      ws = w.seen;
      line = ap positives (line-here ∙ ap (λ (l : List (List ℕ)). joined w.seen (numbers l)) f.none
          ∙ ap some (append-nil w.seen))
          ∙ rw w.ones;
      size = w.size;
      all = w.all;
      kept = w.kept;
      next = record { rest = f.rest ∙ after-here; on = omega (arith, w.on, f.on); same = f.same ∙ e };
    }

    -- a word is no number
    pub widen-not : number (next_word (left d)) ≡ none → is_empty (line_words (left d)) ≡ false
        → positives (numbers (line_words (left c))) ≡ none
    unfolding is_empty
    widen-not h f =
        ap positives line-here
        ∙ no_number (λ ws. is_empty ws ≡ false → positives (joined w.seen (numbers ws)) ≡ none) (left d) h
        (λ e. clash (cc)) (λ v ws e g. rw e) f

    -- a width is 0
    pub widen-zero : (v : ℕ) (j : Cursor) → v ≡ 0 → NumberAt d v j → positives (numbers (line_words (left c))) ≡ none
    widen-zero v j z a = ap positives (line-here ∙ ap (joined w.seen) (numbers_on d v j a))
        ∙ go (numbers (line_words (left j)))
      where
        go : (o : Option (List ℕ)) → positives (joined w.seen (cons_option (some v) o)) ≡ none
        go none = refl
        go (some ms) = rw (every_append (leb 1) w.seen (v ∷ ms)) (rw w.ones (rw z))

-- ---- a line of values

abbrev values_form : ℕ → Option (List ℕ) → Option (List ℕ)
values_form k none = none
values_form k (some ws) = cond (leb 1 k && eqb k (length ws)) (some ws) none

values-form : (k : ℕ) (o : Option (List ℕ)) → values (cons_option (some k) o) ≡ values_form k (positives o)
values-form k none = refl
values-form k (some ws) = go (every (leb 1) ws)
  where
    go : (b : Bool) → cond (leb 1 k && eqb k (length ws) && b) (some ws) none ≡ values_form k (cond b (some ws) none)
    go true = rw and-true
    go false = rw and-false

-- the line does not begin with a number
pub values-off : (s : List ℕ) → number (next_word s) ≡ none → values (numbers (line_words s)) ≡ none
values-off s h = no_number (λ ws. values (numbers ws) ≡ none) s h refl (λ w ws e. rw e)

module _ (at : Cursor) (k : ℕ) (c : Cursor) (a : NumberAt at k c) where
  values-on : values (numbers (line_words (left at))) ≡ values_form k (positives (numbers (line_words (left c))))
  values-on = ap values (numbers_on at k c a) ∙ values-form k (numbers (line_words (left c)))

  pub values-bad : positives (numbers (line_words (left c))) ≡ none → values (numbers (line_words (left at))) ≡ none
  values-bad h = values-on ∙ ap (values_form k) h

  module _ (table : List ℕ) (n s : ℕ) (to : Cursor) (w : WidthsAt c (positives (numbers (line_words (left c)))) table n
      s to) where
    values-some : values (numbers (line_words (left at))) ≡ cond (leb 1 k && eqb k n) (some w.ws) none
    values-some = values-on ∙ ap (values_form k) w.line ∙ ap (λ (m : ℕ). cond (leb 1 k && eqb k m) (some w.ws) none)
        w.size

    pub values-zero : k ≡ 0 → values (numbers (line_words (left at))) ≡ none
    values-zero e = values-some ∙ ap (λ (m : ℕ). cond (leb 1 m && eqb m n) (some w.ws) none) e

    pub values-count : (k ≡ 0 → ⊥) → (k ≡ n → ⊥) → values (numbers (line_words (left at))) ≡ none
    values-count z e = let p : 1 ≤ k = omega arith in values-some ∙ rw (le-leb 1 k p) (rw (ne_eqb k n e))

    pub values-good : (k ≡ 0 → ⊥) → k ≡ n → WidthsAt at (values (numbers (line_words (left at)))) table n s to
    values-good z e =
        let p : 1 ≤ k = omega arith in
        record {
          ws = w.ws;
          line = values-some ∙ rw (le-leb 1 k p) (rw (eq-eqb k n e));
          size = w.size;
          all = w.all;
          kept = w.kept;
          next = record {
            rest = w.next.rest ∙ number-line at k c a;
            on = omega (arith, a.on, w.next.on);
            same
                = w.next.same ∙ a.same;
          };
        }
