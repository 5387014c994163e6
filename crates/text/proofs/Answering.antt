-- What an answer tells of the words of a line.
use Prim.Native.Nat.{ℕ}
use mathlib.Core.Path.{◌≡◌, refl, sym, ap, ap₂, ◌∙◌, subst}
use mathlib.Core.List.{List, [], ◌∷◌}
use mathlib.Core.Option.{none, some}
use Rattle.netlist.specs.Number.{number}
use Rattle.netlist.proofs.Tests.{clash}
use Rattle.text.specs.Line.{next_word, past_word, past_space, line_words, after_line}
use Rattle.text.specs.Cursors.{left, NumberAt, WordIs}
use Rattle.text.specs.declared.cursor.Cursor.{Cursor}
use Rattle.text.proofs.Splitting.{add_word, past_space-words, past_space-after, words_step, after-step, no_word}

-- ---- a number is the first word of its line

no-empty : (v : ℕ) → number [] ≡ some v → ⊥
unfolding number
no-empty v e = clash (cc)

module _ (s : List ℕ) (v : ℕ) (r : List ℕ) (value : number (next_word s) ≡ some v) (rest : r ≡ past_space (past_word s))
  where
    pub number-front : line_words s ≡ next_word s ∷ line_words r
    number-front = words_step s ∙ go (next_word s) value
      where
        go : (w : List ℕ) → number w ≡ some v → add_word w (line_words (past_word s)) ≡ w ∷ line_words r
        go [] e = absurd (no-empty v e)
        go (x ∷ w) e = ap (◌∷◌ (x ∷ w)) (sym (ap line_words rest ∙ past_space-words (past_word s)))

    -- and what is after it stays on the line
    pub number-after : after_line r ≡ after_line s
    number-after = ap after_line rest ∙ past_space-after (past_word s) ∙ after-step s

module _ (c : Cursor) (v : ℕ) (d : Cursor) (n : NumberAt c v d) where
  pub number_word : line_words (left c) ≡ next_word (left c) ∷ line_words (left d)
  number_word = number-front (left c) v (left d) n.value n.rest

  pub number-line : after_line (left d) ≡ after_line (left c)
  number-line = number-after (left c) v (left d) n.value n.rest

-- a line that does not start with a number has no words, or another first word
pub no_number : (P : List (List ℕ) → Type 0) (s : List ℕ) → number (next_word s) ≡ none → P []
    → ((w : List ℕ) (ws : List (List ℕ)) → number w ≡ none → P (w ∷ ws)) → P (line_words s)
no_number P s h p f = go (next_word s) refl h
  where
    go : (w : List ℕ) → next_word s ≡ w → number w ≡ none → P (line_words s)
    go [] e h = subst P (sym (no_word s e)) p
    go (x ∷ w) e h = subst P (sym (words_step s ∙ ap (λ (u : List ℕ). add_word u (line_words (past_word s))) e))
        (f (x ∷ w) (line_words (past_word s)) h)

-- ---- the next word is the first word of its line, if it has one

module _ (c : Cursor) (u : List ℕ) (d : Cursor) (w : WordIs c u d) where
  pub word-words : line_words (left c) ≡ add_word u (line_words (left d))
  word-words = words_step (left c) ∙ ap₂ add_word (sym w.word) (ap line_words (sym w.rest))

  pub word_none : u ≡ [] → line_words (left c) ≡ []
  word_none e = no_word (left c) (sym w.word ∙ e)

  pub word-stays : after_line (left d) ≡ after_line (left c)
  word-stays = ap after_line w.rest ∙ after-step (left c)
