-- A CR that does not stand before LF: where a text has none, its lines are those that the line reader takes.
use Prim.Native.Nat.{ℕ, zero, suc, ◌+◌, ◌-◌, ◌≤◌, ◌<◌}
use mathlib.Core.Path.{◌≡◌, refl, sym, ap, ◌∙◌, subst}
use mathlib.Core.Bool.{Bool, true, false, cond, not, ◌&&◌, ◌||◌}
use mathlib.Core.List.{List, [], ◌∷◌, map}
use mathlib.Core.Option.{Option, none, some}
use native.Mathlib.Omega.{arith}
use lib.Dec.{eqb, leb}
use native.Mathlib.Numerals.{add-one}
use lib.ListN.{length, drop, get_or, drop_of_length-le}
use lib.Seq.{drop-cons}
use borrow.Author.Tests.{eqb-true}
use Rattle.std.specs.Prelude as P
use Rattle.std.specs.Option.{MatchOption, unwrap_or}
use Rattle.netlist.specs.Text.{space, lf, cr, at_lf, lf_ends, is_line_end, onto, split, filled, word_lines, space_words}
use Rattle.netlist.specs.Number.{is_digit, all_digits, no_leading_zero, max_digits, value_from, number}
use Rattle.netlist.specs.Header.{cons_option, numbers}
use Rattle.netlist.proofs.Tests.{All, empty, each, all_head, all_tail, on_bool, both, both_true, is_true, clash}
use Rattle.netlist.proofs.Questions.{none-some, cond-some}
use Rattle.netlist.proofs.LineEnds.{NoCR, ends-alike, space-words}
use Rattle.text.specs.Line.{first_line, after_line, line_words}
use Rattle.text.proofs.Splitting.{add_line, first_step, lines_step}
use Rattle.aiger.specs.Lines.{file_line, file_lines}
use Rattle.from_aiger.specs.Stray.{is_stray, stray_at, is_between, ToWord}
use Rattle.from_aiger.specs.LineAnswers.{first_numbers}

-- ---- places

pub stray-within : (t : List ℕ) → stray_at t ≤ length t
stray-within [] = omega arith
stray-within (x ∷ xs) = go (eqb x cr && not (at_lf xs)) (stray-within xs)
  where
    go : (b : Bool) → stray_at xs ≤ length xs → cond b 0 (suc (stray_at xs)) ≤ suc (length xs)
    go true h = omega arith
    go false h = omega arith

-- seen from a place before it
pub stray-drop : (t : List ℕ) (at : ℕ) → at ≤ stray_at t → at + stray_at (drop at t) ≡ stray_at t
stray-drop t zero h = omega arith
stray-drop [] (suc at) h = absurd (omega arith)
stray-drop (x ∷ xs) (suc at) h = go (eqb x cr && not (at_lf xs)) h (stray-drop xs at)
  where
    go : (b : Bool) → suc at ≤ cond b 0 (suc (stray_at xs)) → (at ≤ stray_at xs → at + stray_at (drop at xs)
        ≡ stray_at xs)
        → suc at + stray_at (drop at xs) ≡ cond b 0 (suc (stray_at xs))
    go true h f = absurd (omega arith)
    go false h f = let z = f (omega arith) in omega arith

after-shorter : (s : List ℕ) → length (after_line s) ≤ length s
after-shorter [] = omega arith
after-shorter (x ∷ xs) = go (is_line_end x) (after-shorter xs)
  where
    go : (b : Bool) → length (after_line xs) ≤ length xs → length (cond b xs (after_line xs)) ≤ suc (length xs)
    go true h = omega arith
    go false h = omega arith

-- a text that begins with one
pub stray-here : (s : List ℕ) → is_stray s ≡ true → (stray_at s ≡ 0) × (length (after_line s) < length s)
stray-here [] e = clash (cc)
stray-here (x ∷ xs) e = (rw e, go (is_line_end x) refl (after-shorter xs))
  where
    go : (b : Bool) → is_line_end x ≡ b → length (after_line xs) ≤ length xs → length (cond b xs (after_line xs)) < suc
        (length xs)
    go true q h = omega arith
    go false q h = omega arith

-- ---- a line without such a CR

cr-no-end : (x : ℕ) → eqb x cr ≡ true → is_line_end x ≡ false
cr-no-end x e = ap is_line_end (eqb-true x cr e)

-- no such CR up to the next line
abbrev pub Clean : List ℕ → Type 0
Clean s = length s ≤ length (after_line s) + stray_at s

module _ (x : ℕ) (xs : List ℕ) where
  abbrev stray : Bool → Bool → ℕ
  stray a b = cond (a && not b) 0 (suc (stray_at xs))

  abbrev ends : Bool → Bool → List ℕ
  ends a b = cond (a && b) (lf_ends xs) (x ∷ lf_ends xs)

  abbrev after : Bool → List ℕ
  after e = cond e xs (after_line xs)

clean-no-cr : (s : List ℕ) → Clean s → NoCR (first_line (lf_ends s))
clean-no-cr [] h = empty
clean-no-cr (x ∷ xs) h = go (eqb x cr) (at_lf xs) (is_line_end x) refl refl h (clean-no-cr xs) (after-shorter xs)
  where
    go : (a b e : Bool) → eqb x cr ≡ a → is_line_end x ≡ e → suc (length xs) ≤ length (after x xs e) + stray x xs a b
        → (Clean xs → NoCR (first_line (lf_ends xs))) → length (after_line xs) ≤ length xs
        → NoCR (first_line (ends x xs a b))
    go true b true p q h f l = let z : ◌≡◌ {A = Bool} true false = sym q ∙ cr-no-end x p in clash (cc)
    go true true false p q h f l = f (omega arith)
    go true false false p q h f l = absurd (omega arith)
    go false b true p q h f l = rw q empty
    go false b false p q h f l = rw q (each p (f (omega arith)))

no-cr-clean : (s : List ℕ) → NoCR (first_line (lf_ends s)) → Clean s
no-cr-clean [] h = omega arith
no-cr-clean (x ∷ xs) h = go (eqb x cr) (at_lf xs) (is_line_end x) refl refl h (no-cr-clean xs)
  where
    go : (a b e : Bool) → eqb x cr ≡ a → is_line_end x ≡ e → NoCR (first_line (ends x xs a b))
        → (NoCR (first_line (lf_ends xs)) → Clean xs)
        → suc (length xs) ≤ length (after x xs e) + stray x xs a b
    go true b true p q h f = let z : ◌≡◌ {A = Bool} true false = sym q ∙ cr-no-end x p in clash (cc)
    go true true false p q h f = let z = f h in omega arith
    go true false false p q h f =
        let k : NoCR (x ∷ first_line (lf_ends xs)) = rw q at h in
        let z : ◌≡◌ {A = Bool} true false = sym p ∙ all_head k in
        clash (cc)
    go false b true p q h f = omega arith
    go false b false p q h f =
        let k : NoCR (x ∷ first_line (lf_ends xs)) = rw q at h in
        let z = f (all_tail k) in
        omega arith

-- ---- the first line and those after it

after-ends : (s : List ℕ) → after_line (lf_ends s) ≡ lf_ends (after_line s)
after-ends [] = refl
after-ends (x ∷ xs) = go (eqb x cr) (at_lf xs) (is_line_end x) refl refl (after-ends xs)
  where
    go : (a b e : Bool) → eqb x cr ≡ a → is_line_end x ≡ e → after_line (lf_ends xs) ≡ lf_ends (after_line xs)
        → after_line (ends x xs a b) ≡ lf_ends (after x xs e)
    go true b true p q f = let z : ◌≡◌ {A = Bool} true false = sym q ∙ cr-no-end x p in cc
    go true true false p q f = f
    go true false false p q f = rw q f
    go false b true p q f = rw q
    go false b false p q f = rw q f

pub file-step : (s : List ℕ) → file_lines s ≡ add_line (file_line s) (file_lines (after_line s))
unfolding file_line file_lines
file-step s =
    first_step space_words refl (lf_ends s) ∙ ap (λ (u : List ℕ). add_line (space_words (first_line (lf_ends s)))
    (filled (map space_words (split is_line_end u)))) (after-ends s)

add_same : (a b : List (List ℕ)) (ls : List (List (List ℕ))) → add_line a ls ≡ add_line b ls → a ≡ b
add_same [] [] ls e = refl
add_same [] (w ∷ b) ls e = let z : length ls ≡ suc (length ls) = ap length e in absurd (omega arith)
add_same (v ∷ a) [] ls e = let z : suc (length ls) ≡ length ls = ap length e in absurd (omega arith)
add_same (v ∷ a) (w ∷ b) ls e = cc

-- CR LF ends the first line as LF does
line-alike : (s : List ℕ) → line_words (lf_ends s) ≡ line_words s
line-alike s =
    add_same (line_words (lf_ends s)) (line_words s) (word_lines (after_line s))
    (ap (add_line (line_words (lf_ends s))) (sym (ap word_lines (after-ends s) ∙ ends-alike (after_line s)))
    ∙ sym (lines_step (lf_ends s)) ∙ ends-alike s ∙ lines_step s)

pub clean_line : (s : List ℕ) → Clean s → file_line s ≡ line_words s
unfolding file_line line_words
clean_line s h = sym (space-words (clean-no-cr s h)) ∙ line-alike s

-- ---- numbers have no CR

digits-no-cr : (w : List ℕ) → all_digits w ≡ true → NoCR w
digits-no-cr [] h = empty
digits-no-cr (b ∷ w) h =
    let p = both_true (is_digit b) (all_digits w) h in
    each (on_bool (eqb b cr) (λ e. let z : is_digit b ≡ false = ap is_digit (eqb-true b cr e) in clash (cc)) (λ e. e))
    (digits-no-cr w p.1)

pub number-no-cr : (w : List ℕ) (v : ℕ) → number w ≡ some v → NoCR w
unfolding number
number-no-cr w v e =
    let p = cond-some (all_digits w && no_leading_zero w && leb (length w) max_digits) (value_from 0 w) v e in
    let q = both (all_digits w && no_leading_zero w) (leb (length w) max_digits) p.0 in
    digits-no-cr w (is_true (all_digits w) (both (all_digits w) (no_leading_zero w) q.0).0)

-- the parts of a list that are not empty are all that count
filled-all : (ps : List (List ℕ)) → All NoCR (filled ps) → All NoCR ps
filled-all [] h = empty
filled-all ([] ∷ ps) h = each empty (filled-all ps h)
filled-all ((x ∷ p) ∷ ps) h = each (all_head h) (filled-all ps (all_tail h))

onto_parts : (x : ℕ) (ps : List (List ℕ)) → All NoCR (onto x ps) → (eqb x cr ≡ false) × All NoCR ps
onto_parts x [] h = (all_head (all_head h), empty)
onto_parts x (p ∷ ps) h = (all_head (all_head h), each (all_tail (all_head h)) (all_tail h))

parts-no-cr : (l : List ℕ) → All NoCR (split (λ x. eqb x space) l) → NoCR l
parts-no-cr [] h = empty
parts-no-cr (x ∷ xs) h = go (eqb x space) refl h (parts-no-cr xs)
  where
    go : (b : Bool) → eqb x space ≡ b → All NoCR (cond b ([] ∷ split (λ x. eqb x space) xs)
        (onto x (split (λ x. eqb x space) xs)))
        → (All NoCR (split (λ x. eqb x space) xs) → NoCR xs) → NoCR (x ∷ xs)
    go true e h f = each (ap (λ (y : ℕ). eqb y cr) (eqb-true x space e)) (f (all_tail h))
    go false e h f = let p = onto_parts x (split (λ x. eqb x space) xs) h in each p.0 (f p.1)

numbers-no-cr : (ws : List (List ℕ)) (ns : List ℕ) → numbers ws ≡ some ns → All NoCR ws
numbers-no-cr [] ns e = empty
numbers-no-cr (w ∷ ws) ns e = go (number w) (numbers ws) refl refl e (λ ms. numbers-no-cr ws ms)
  where
    go : (o : Option ℕ) (q : Option (List ℕ)) → number w ≡ o → numbers ws ≡ q → cons_option o q ≡ some ns
        → ((ms : List ℕ) → numbers ws ≡ some ms → All NoCR ws) → All NoCR (w ∷ ws)
    go none q a b e f = absurd (none-some ns e)
    go (some v) none a b e f = absurd (none-some ns e)
    go (some v) (some ms) a b e f = each (number-no-cr w v a) (f ms b)

space-no-cr : (l ns : List ℕ) → numbers (space_words l) ≡ some ns → NoCR l
space-no-cr l ns e = parts-no-cr l (filled-all (split (λ x. eqb x space) l) (numbers-no-cr (space_words l) ns e))

-- a line of numbers has none
pub numbers-clean : (s ns : List ℕ) → numbers (file_line s) ≡ some ns → Clean s
unfolding file_line
numbers-clean s ns e = no-cr-clean s (space-no-cr (first_line (lf_ends s)) ns e)

-- ---- between words and lines

lf-lines : (xs : List ℕ) → file_lines (lf ∷ xs) ≡ file_lines xs
unfolding file_line
lf-lines xs = file-step (lf ∷ xs)

space-lines : (xs : List ℕ) → file_lines (space ∷ xs) ≡ file_lines xs
unfolding file_line
space-lines xs = file-step (space ∷ xs) ∙ sym (file-step xs)

crlf-lines : (xs : List ℕ) → at_lf xs ≡ true → file_lines (cr ∷ xs) ≡ file_lines xs
unfolding file_lines
crlf-lines xs e = rw e

space-no-return : (x : ℕ) → eqb x space ≡ true → eqb x cr ≡ false
space-no-return x e = ap (λ (y : ℕ). eqb y cr) (eqb-true x space e)

never : (b : Bool) → b ≡ true → b ≡ false → ⊥
never b p q = clash (cc)

module _ (x : ℕ) (xs : List ℕ) where
  abbrev between : Bool → Bool → Bool → Bool → Bool
  between a b c d = ((a || b) || c) && not (b && not d)

-- a byte that is part of no word counts for nothing
pub between-on : (x : ℕ) (xs : List ℕ) → is_between (x ∷ xs) ≡ true → (file_lines xs ≡ file_lines (x ∷ xs))
    × (stray_at (x ∷ xs) ≡ suc (stray_at xs))
between-on x xs h = go (eqb x space) (eqb x cr) (is_line_end x) (at_lf xs) refl refl refl refl h
  where
    go : (a b c d : Bool) → eqb x space ≡ a → eqb x cr ≡ b → is_line_end x ≡ c → at_lf xs ≡ d → between x xs a b c d
        ≡ true
        → (file_lines xs ≡ file_lines (x ∷ xs)) × (stray x xs b d ≡ suc (stray_at xs))
    go true true c d p q r k h = absurd (never (eqb x cr) q (space-no-return x p))
    go true false c d p q r k h = (
      sym (ap (λ (y : ℕ). file_lines (y ∷ xs)) (eqb-true x space p) ∙ space-lines xs),
      refl,
    )
    go false true c true p q r k h = (
      sym (ap (λ (y : ℕ). file_lines (y ∷ xs)) (eqb-true x cr q) ∙ crlf-lines xs k),
      refl,
    )
    go false true true false p q r k h = absurd (never false h refl)
    go false true false false p q r k h = absurd (never false h refl)
    go false false true d p q r k h = (sym (ap (λ (y : ℕ). file_lines (y ∷ xs)) (eqb-true x lf r) ∙ lf-lines xs), refl)
    go false false false d p q r k h = absurd (never false h refl)

-- on the way to the next word
record Passing (t : List ℕ) (from i : ℕ) : Type 0 where
  pub lines : file_lines (drop i t) ≡ file_lines (drop from t)
  pub on : from ≤ i
  pub before : i ≤ stray_at t

module _ (t : List ℕ) (from i : ℕ) (P : Passing t from i) where
  passing-on : i < length t → is_between (drop i t) ≡ true → Passing t from (i + 1)
  passing-on h e =
      let d : drop i t ≡ get_or t i 0 ∷ drop (i + 1) t = rw (add-one, drop-cons t i 0) refl in
      let b = between-on (get_or t i 0) (drop (i + 1) t) (ap is_between (sym d) ∙ e) in
      let s : stray_at (drop i t) ≡ suc (stray_at (drop (i + 1) t)) = ap stray_at d ∙ b.1 in
      let z = stray-drop t i P.before in
      record { lines = b.0 ∙ sym (ap file_lines d) ∙ P.lines; on = omega (arith, P.on); before = omega arith }

  passing-stop : is_between (drop i t) ≡ false → ToWord t from i
  passing-stop e = record { lines = P.lines; still = e; on = P.on; before = P.before }

  -- the loop went to the text's end
  passing-end : length t ≤ i → ToWord t from (length t)
  passing-end h =
      let e : i ≡ length t = omega (arith, P.before, stray-within t) in
      subst (ToWord t from) e (passing-stop (ap is_between (drop_of_length-le t h)))

-- the first place from here on whose byte is part of a word, or the end
module _ (t : List ℕ) (at : ℕ) (h : at ≤ stray_at t) where
  pass-more : (n : ℕ) → at + n ≤ length t → ((k : ℕ) → at ≤ k → k < at + n → is_between (drop k t) ≡ true)
      → Passing t at (at + n)
  pass-more zero l w = let e : at ≡ at + zero = omega arith in subst (Passing t at) e
      (record { lines = refl; on = omega arith; before = h })
  pass-more (suc n) l w =
      let e : (at + n) + 1 ≡ at + suc n = omega arith in
      subst (Passing t at) e
      (passing-on t at (at + n) (pass-more n (omega arith) (λ k a b. w k a (omega arith))) (omega arith)
      (w (at + n) (omega arith) (omega arith)))

  pass-to : (i : ℕ) → at ≤ i → i ≤ length t → ((k : ℕ) → at ≤ k → k < i → is_between (drop k t) ≡ true) → Passing t at i
  pass-to i a l w =
      let e : at + (i - at) ≡ i = omega arith in
      subst (Passing t at) e (pass-more (i - at) (omega arith) (λ k b c. w k b (omega arith)))

  pub passed : (r : P.Option ℕ)
      → MatchOption r ((k : ℕ) → at ≤ k → k < length t → is_between (drop k t) ≡ true)
      (λ i. (at ≤ i) × (i < length t) × (is_between (drop i t) ≡ false)
      × ((k : ℕ) → at ≤ k → k < i → is_between (drop k t) ≡ true))
      → ToWord t at (unwrap_or r (length t))
  passed P.None w = passing-end t at (length t) (pass-to (length t) (omega (arith, h, stray-within t)) (omega arith) w)
      (omega arith)
  passed (P.Some i) w = passing-stop t at i (pass-to i w.0 (let l = w.1 in omega arith) w.3) w.2

-- the words of a line that starts with a word
some_word : (x : ℕ) (l : List ℕ) → eqb x space ≡ false → (w : List ℕ) × (ws : List (List ℕ))
    × (space_words (x ∷ l) ≡ w ∷ ws)
some_word x l e = go (split (λ x. eqb x space) l) refl
  where
    go : (ps : List (List ℕ)) → split (λ x. eqb x space) l ≡ ps → (w : List ℕ) × (ws : List (List ℕ))
        × (space_words (x ∷ l) ≡ w ∷ ws)
    go [] q = (x ∷ [], [], rw (e, q))
    go (p ∷ ps) q = (x ∷ p, filled ps, rw (e, q))

first-add : (l w : List ℕ) (l' ws : List (List ℕ)) (ls : List (List (List ℕ))) (ns : List ℕ) → l' ≡ w ∷ ws
    → first_numbers (add_line l' ls) ≡ some ns
    → numbers l' ≡ some ns
first-add l w l' ws ls ns e h = ap numbers e ∙ sym (ap (λ (k : List (List ℕ)). first_numbers (add_line k ls)) e) ∙ h

-- the line at a word is the next one
pub word_first : (s ns : List ℕ) → is_between s ≡ false → first_numbers (file_lines s) ≡ some ns → numbers (file_line s)
    ≡ some ns
unfolding file_line file_lines
word_first [] ns e h = absurd (none-some ns h)
word_first (x ∷ xs) ns e h = go (eqb x space) (eqb x cr) (is_line_end x) (at_lf xs) refl refl refl refl e
  where
    found : eqb x space ≡ false → file_line (x ∷ xs) ≡ space_words (x ∷ first_line (lf_ends xs))
        → numbers (file_line (x ∷ xs)) ≡ some ns
    found p same =
        let f = first_line (lf_ends xs) in
        let w = some_word x f p in
        first-add f w.0 (file_line (x ∷ xs)) w.1 (file_lines (after_line (x ∷ xs))) ns (same ∙ w.2)
        (ap first_numbers (sym (file-step (x ∷ xs))) ∙ h)

    go : (a b c d : Bool) → eqb x space ≡ a → eqb x cr ≡ b → is_line_end x ≡ c → at_lf xs ≡ d → between x xs a b c d
        ≡ false → numbers (file_line (x ∷ xs)) ≡ some ns
    go true true c d p q r k e = absurd (never (eqb x cr) q (space-no-return x p))
    go true false c d p q r k e = absurd (never true refl e)
    go false true c true p q r k e = absurd (never true refl e)
    go false true true false p q r k e = absurd (never (is_line_end x) r (cr-no-end x q))
    go false true false false p q r k e = found p (rw q (rw k (rw r refl)))
    go false false true d p q r k e = absurd (never true refl e)
    go false false false d p q r k e = found p (rw q (rw r refl))
