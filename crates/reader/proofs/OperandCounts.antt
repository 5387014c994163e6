-- The counts of a gate line: how they are read, and what is left of the line.
use Prim.Native.Nat.{ℕ}
use Rattle.std.specs.Prelude as std
use mathlib.Core.Path.{◌≡◌, refl, sym, ap, ◌∙◌}
use mathlib.Core.List.{List, ◌∷◌}
use mathlib.Core.Option.{none}
use native.Mathlib.Omega.{arith}
use Rattle.netlist.specs.Number.{number}
use Rattle.text.specs.declared.cursor.Cursor.{Cursor}
use Rattle.text.specs.Line.{line_words, next_word}
use Rattle.text.specs.Cursors.{left, NumberAt}
use Rattle.text.proofs.Answering.{number_word, number-line, no_number}
use Rattle.gates.specs.declared.GateNumbers.{GateNumbers}
use Rattle.reader.specs.GateForm.{on_number, counted, gate_form}
use Rattle.reader.specs.GateAnswers.{LineIs}
use Rattle.reader.specs.OperandAnswers.{OperandsAt}
use Rattle.reader.proofs.GateForms.{counted-results}
use Rattle.reader.proofs.GateWords.{next-following}

-- ---- two numbers

module _ (c : Cursor) where
  -- the first is missing
  pub no-operands : number (next_word (left c)) ≡ none → gate_form (line_words (left c)) ≡ none
  unfolding gate_form on_number
  no-operands h = no_number (λ ws. gate_form ws ≡ none) (left c) h refl (λ w ws e. rw e)

  module _ (k : ℕ) (m : Cursor) (a : NumberAt c k m) where
    following-first : gate_form (line_words (left c)) ≡ on_number (line_words (left m)) (λ n ws. counted k n ws)
    unfolding gate_form on_number
    following-first = ap gate_form (number_word c k m a) ∙ rw a.value

    -- the second is missing
    pub no-results : number (next_word (left m)) ≡ none → gate_form (line_words (left c)) ≡ none
    unfolding on_number
    no-results h = following-first ∙ no_number (λ ws. on_number ws (λ n ws. counted k n ws) ≡ none) (left m) h refl
        (λ w ws e. rw e)

    module _ (n : ℕ) (d : Cursor) (b : NumberAt m n d) where
      -- it is not 1
      pub other-results : (n ≡ 1 → ⊥) → gate_form (line_words (left c)) ≡ none
      unfolding on_number
      other-results h =
          following-first ∙ ap (λ (ws : List (List ℕ)). on_number ws (λ n ws. counted k n ws)) (number_word m n d b)
          ∙ rw b.value (counted-results k n (line_words (left d)) h)

      -- it is
      pub one-result : n ≡ 1 → OperandsAt c k d
      one-result e = record {
        operands = next_word (left c);
        results = next_word (left m);
        line = number_word c k m a ∙ ap (λ (ws : List (List ℕ)). next_word (left c) ∷ ws) (number_word m n d b);
        count = a.value;
        one = rw e at b.value;
        after = number-line m n d b ∙ number-line c k m a;
        on = omega (arith, a.on, b.on);
        same = b.same ∙ a.same;
      }

-- ---- the line after the counts

module _ (c : Cursor) (k : ℕ) (d : Cursor) (o : OperandsAt c k d) where
  pub line-operands : (r : std.Option (GateNumbers × Cursor)) → LineIs d (counted k 1 (line_words (left d))) r
      → LineIs c (gate_form (line_words (left c))) r
  unfolding gate_form on_number
  line-operands r l = record {
    gate = l.gate ∙ sym (ap gate_form o.line ∙ rw o.count (rw o.one));
    numbers = l.numbers;
    next = next-following c d o.after o.on o.same r l.next;
  }
