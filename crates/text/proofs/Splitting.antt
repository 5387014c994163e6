-- The lines and words of a text, one after another: each law takes one line or one word off what is left.
use Prim.Native.Nat.{ℕ}
use mathlib.Core.Path.{◌≡◌, refl, sym, ap, ap₂, ◌∙◌}
use mathlib.Core.Bool.{Bool, true, false, cond, ◌||◌, not}
use mathlib.Core.List.{List, [], ◌∷◌, map}
use lib.Dec.{eqb}
use borrow.Author.Tests.{eqb-true}
use Rattle.netlist.specs.Text.{space, lf, cr, is_space, is_line_end, words, word_lines, split, onto, filled}
use Rattle.netlist.proofs.Tests.{on_bool}
use Rattle.text.specs.Line.{is_blank, in_word, first_line, after_line, take_while, drop_while, next_word, past_word}
use Rattle.text.specs.Line.{past_space, line_words}

-- ---- lines

-- a line without words is none
abbrev pub add_line : List (List ℕ) → List (List (List ℕ)) → List (List (List ℕ))
add_line [] ls = ls
add_line (w ∷ ws) ls = (w ∷ ws) ∷ ls

-- the lines after the first
rest : List ℕ → List (List ℕ)
rest [] = []
rest (x ∷ xs) = cond (is_line_end x) (split is_line_end xs) (rest xs)

split-line : (s : List ℕ) → split is_line_end s ≡ first_line s ∷ rest s
unfolding rest
split-line [] = refl
split-line (x ∷ xs) = go (is_line_end x) (split-line xs)
  where
    go : (b : Bool) → split is_line_end xs ≡ first_line xs ∷ rest xs
        → cond b ([] ∷ split is_line_end xs) (onto x (split is_line_end xs)) ≡ cond b [] (x ∷ first_line xs) ∷ cond b
        (split is_line_end xs) (rest xs)
    go true e = refl
    go false e = ap (onto x) e

filled-line : (p : List (List ℕ)) (ps : List (List (List ℕ))) → filled (p ∷ ps) ≡ add_line p (filled ps)
filled-line [] ps = refl
filled-line (w ∷ ws) ps = refl

-- lines by any reading of a line that makes nothing of an empty one
module _ (f : List ℕ → List (List ℕ)) (none : f [] ≡ []) where
  rest_lines : (s : List ℕ) → filled (map f (rest s)) ≡ filled (map f (split is_line_end (after_line s)))
  unfolding rest
  rest_lines [] = rw none
  rest_lines (x ∷ xs) = go (is_line_end x) (rest_lines xs)
    where
      go : (b : Bool) → filled (map f (rest xs)) ≡ filled (map f (split is_line_end (after_line xs)))
          → filled (map f (cond b (split is_line_end xs) (rest xs)))
          ≡ filled (map f (split is_line_end (cond b xs (after_line xs))))
      go true e = refl
      go false e = e

  pub first_step : (s : List ℕ) → filled (map f (split is_line_end s)) ≡ add_line (f (first_line s))
      (filled (map f (split is_line_end (after_line s))))
  first_step s =
      ap (λ (ls : List (List ℕ)). filled (map f ls)) (split-line s) ∙ filled-line (f (first_line s)) (map f (rest s))
      ∙ ap (add_line (f (first_line s))) (rest_lines s)

-- the lines of a text are its first line's words and the lines after it
pub lines_step : (s : List ℕ) → word_lines s ≡ add_line (line_words s) (word_lines (after_line s))
unfolding word_lines line_words words
lines_step s = first_step words refl s

-- ---- words

-- an empty word is none
abbrev pub add_word : List ℕ → List (List ℕ) → List (List ℕ)
add_word [] ws = ws
add_word (x ∷ w) ws = (x ∷ w) ∷ ws

-- the parts of the first line after the first word
rest_of_line : List ℕ → List (List ℕ)
rest_of_line [] = []
rest_of_line (x ∷ xs) = cond (is_line_end x) [] (cond (is_space x) (split is_space (first_line xs)) (rest_of_line xs))

split-word : (s : List ℕ) → split is_space (first_line s) ≡ take_while in_word s ∷ rest_of_line s
unfolding rest_of_line
split-word [] = refl
split-word (x ∷ xs) = go (is_line_end x) (is_space x) refl (split-word xs)
  where
    go : (a b : Bool) → is_space x ≡ b → split is_space (first_line xs) ≡ take_while in_word xs ∷ rest_of_line xs
        → split is_space (cond a [] (x ∷ first_line xs))
        ≡ cond (not (b || a)) (x ∷ take_while in_word xs) [] ∷ cond a []
        (cond b (split is_space (first_line xs)) (rest_of_line xs))
    go true true q e = refl
    go true false q e = refl
    go false true q e = rw q
    go false false q e = rw q (ap (onto x) e)

rest-words : (s : List ℕ) → filled (rest_of_line s) ≡ line_words (drop_while in_word s)
unfolding rest_of_line line_words words
rest-words [] = refl
rest-words (x ∷ xs) = go (is_line_end x) (is_space x) refl refl (rest-words xs)
  where
    go : (a b : Bool) → is_line_end x ≡ a → is_space x ≡ b → filled (rest_of_line xs)
        ≡ line_words (drop_while in_word xs)
        → filled (cond a [] (cond b (split is_space (first_line xs)) (rest_of_line xs)))
        ≡ line_words (cond (not (b || a)) (drop_while in_word xs) (x ∷ xs))
    go true true p q e = rw p
    go true false p q e = rw p
    go false true p q e = rw p (rw q)
    go false false p q e = e

filled-word : (p : List ℕ) (ps : List (List ℕ)) → filled (p ∷ ps) ≡ add_word p (filled ps)
filled-word [] ps = refl
filled-word (x ∷ w) ps = refl

-- the words of a line are the one that it starts with, if it does, and the words after it
pub words-front : (s : List ℕ) → line_words s ≡ add_word (take_while in_word s) (line_words (drop_while in_word s))
unfolding line_words words
words-front s = ap filled (split-word s) ∙ filled-word (take_while in_word s) (rest_of_line s)
    ∙ ap (add_word (take_while in_word s)) (rest-words s)

-- ---- spaces and words passed over

space-no-end : (x : ℕ) → is_space x ≡ true → is_line_end x ≡ false
space-no-end x q = on_bool (eqb x space) (λ e. ap is_line_end (eqb-true x space e))
    (λ e. ap is_line_end (eqb-true x cr (rw e at q)))

pub end-no-space : (x : ℕ) → is_line_end x ≡ true → is_space x ≡ false
end-no-space x e = ap is_space (eqb-true x lf e)

space-words : (x : ℕ) (xs : List ℕ) → is_space x ≡ true → line_words (x ∷ xs) ≡ line_words xs
unfolding line_words words
space-words x xs q = rw (space-no-end x q) (rw q)

space-after : (x : ℕ) (xs : List ℕ) → is_space x ≡ true → after_line (x ∷ xs) ≡ after_line xs
space-after x xs q = rw (space-no-end x q)

-- the one space that leads counts for nothing
pub past_space-words : (s : List ℕ) → line_words (past_space s) ≡ line_words s
past_space-words [] = refl
past_space-words (x ∷ xs) = on_bool (eqb x space) (λ e. rw e (sym (space-words x xs (rw e)))) (λ e. rw e)

pub past_space-after : (s : List ℕ) → after_line (past_space s) ≡ after_line s
past_space-after [] = refl
past_space-after (x ∷ xs) = on_bool (eqb x space) (λ e. rw e (sym (space-after x xs (rw e)))) (λ e. rw e)

-- what passes over each byte of a kind passes over all of them
passed_over : {A : Type 0} (p : ℕ → Bool) (f : List ℕ → A) → ((x : ℕ) (xs : List ℕ) → p x ≡ true → f (x ∷ xs) ≡ f xs)
    → (s : List ℕ) → f (drop_while p s) ≡ f s
passed_over p f h [] = refl
passed_over p f h (x ∷ xs) = go (p x) refl (passed_over p f h xs)
  where
    go : (b : Bool) → p x ≡ b → f (drop_while p xs) ≡ f xs → f (cond b (drop_while p xs) (x ∷ xs)) ≡ f (x ∷ xs)
    go true q e = e ∙ sym (h x xs q)
    go false q e = refl

pub skip-words : (s : List ℕ) → line_words (drop_while is_space s) ≡ line_words s
skip-words = passed_over is_space line_words space-words

pub skip-after : (s : List ℕ) → after_line (drop_while is_space s) ≡ after_line s
skip-after = passed_over is_space after_line space-after

word_after : (s : List ℕ) → after_line (drop_while in_word s) ≡ after_line s
word_after [] = refl
word_after (x ∷ xs) = go (is_line_end x) (is_space x) refl (word_after xs)
  where
    go : (a b : Bool) → is_line_end x ≡ a → after_line (drop_while in_word xs) ≡ after_line xs
        → after_line (cond (not (b || a)) (drop_while in_word xs) (x ∷ xs)) ≡ cond a xs (after_line xs)
    go true true p e = rw p
    go true false p e = rw p
    go false true p e = rw p
    go false false p e = e

-- the words of a line are the next word and the words after it
pub words_step : (s : List ℕ) → line_words s ≡ add_word (next_word s) (line_words (past_word s))
unfolding next_word past_word
words_step s = sym (skip-words s) ∙ words-front (drop_while is_space s)

-- taking a word stays on the line
pub after-step : (s : List ℕ) → after_line (past_word s) ≡ after_line s
unfolding past_word
after-step s = word_after (drop_while is_space s) ∙ skip-after s

-- a line whose next word is empty has no words
pub no_word : (s : List ℕ) → next_word s ≡ [] → line_words s ≡ []
unfolding next_word line_words words
no_word [] h = refl
no_word (x ∷ xs) h = go (is_line_end x) (is_space x) refl refl h (no_word xs)
  where
    go : (a b : Bool) → is_line_end x ≡ a → is_space x ≡ b → take_while in_word
        (cond b (drop_while is_space xs) (x ∷ xs)) ≡ []
        → (take_while in_word (drop_while is_space xs) ≡ [] → line_words xs ≡ [])
        → line_words (x ∷ xs) ≡ []
    go a true p q h f = space-words x xs q ∙ f h
    go true false p q h f = rw p
    go false false p q h f = let k : ◌≡◌ {A = List ℕ} (x ∷ take_while in_word xs) [] = simp (p, q) at h in cc

-- blank lines count for nothing
pub blank-lines : (s : List ℕ) → word_lines (drop_while is_blank s) ≡ word_lines s
unfolding line_words words
blank-lines [] = refl
blank-lines (x ∷ xs) = go (is_line_end x) (is_space x) refl refl (blank-lines xs)
  where
    go : (a b : Bool) → is_line_end x ≡ a → is_space x ≡ b → word_lines (drop_while is_blank xs) ≡ word_lines xs
        → word_lines (cond (b || a) (drop_while is_blank xs) (x ∷ xs)) ≡ word_lines (x ∷ xs)
    go a true p q e = e ∙ lines_step xs ∙ ap₂ add_line (sym (space-words x xs q))
        (ap word_lines (sym (space-after x xs q))) ∙ sym (lines_step (x ∷ xs))
    go true false p q e = e ∙ sym (lines_step (x ∷ xs) ∙ rw p)
    go false false p q e = refl
