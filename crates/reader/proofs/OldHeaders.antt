-- The two header lines of the older dialect.
use Prim.Native.Nat.{ℕ, ◌+◌}
use mathlib.Core.Path.{◌≡◌, refl, sym, ap, ◌∙◌}
use mathlib.Core.Bool.{Bool, true, false, cond, ◌&&◌}
use mathlib.Core.List.{List, [], ◌∷◌}
use mathlib.Core.Option.{Option, none, some}
use native.Mathlib.Omega.{arith}
use lib.Dec.{eqb, leb}
use lib.ListN.{length, set}
use borrow.Author.Tests.{le-leb, eqb-true}
use Rattle.netlist.specs.Lists.{sum}
use Rattle.netlist.specs.Number.{number}
use Rattle.netlist.specs.Text.{word_lines}
use Rattle.netlist.specs.Header.{numbers, cons_option}
use Rattle.netlist.proofs.Questions.{none-some}
use Rattle.text.specs.Line.{line_words, next_word, next_line_of, is_blank}
use Rattle.text.specs.Cursors.{left, Scanned, NumberAt}
use Rattle.text.specs.declared.cursor.Cursor.{Cursor}
use Rattle.text.proofs.Answering.{number-line, no_number}
use Rattle.text.proofs.Cursors.{following-its-line}
use Rattle.dialect.specs.declared.Parties.{Parties}
use Rattle.dialect.specs.declared.Dialect.TheVariants.{Old}
use Rattle.dialect.specs.OldHeader.{parties, input_values, output_values, party_header, old_header}
use Rattle.reader.specs.HeaderAnswers.{pair_only, CountsAt, Kept, PartiesAt, HeaderOf}
use Rattle.reader.proofs.WidthLines.{numbers_on, kept_more}
use Rattle.reader.proofs.Headers.{read-line, Without, first-line, pair_of, pair_is, no-pair, start, one, pair}

-- ---- line two

pub parties-first : (s : List ℕ) → number (next_word s) ≡ none → parties (numbers (line_words s)) ≡ none
parties-first s h = no_number (λ ws. parties (numbers ws) ≡ none) s h refl (λ w ws e. rw e)

no-rest : (x : ℕ) (o : Option (List ℕ)) → pair_only o ≡ none → parties (cons_option (some x) o) ≡ none
no-rest x none e = refl
no-rest x (some []) e = refl
no-rest x (some (y ∷ [])) e = refl
no-rest x (some (y ∷ (z ∷ []))) e = absurd (none-some _ (sym e))
no-rest x (some (y ∷ (z ∷ (v ∷ vs)))) e = refl

pub parties-rest : (at : Cursor) (x : ℕ) (c : Cursor) → NumberAt at x c → pair_only (numbers (line_words (left c)))
    ≡ none
    → parties (numbers (line_words (left at))) ≡ none
parties-rest at x c a e = ap parties (numbers_on at x c a) ∙ no-rest x (numbers (line_words (left c))) e

-- the first number, and the two others
module _ (at : Cursor) (x : ℕ) (c : Cursor) (y z : ℕ) (to : Cursor) (a : NumberAt at x c) (b : CountsAt c y z to) where
  three : parties (numbers (line_words (left at))) ≡ cond (leb 1 x && leb 1 z)
      (some (record { one = x; two = y; output = z })) none
  three = ap parties (numbers_on at x c a) ∙ ap (λ (o : Option (List ℕ)). parties (cons_option (some x) o))
      (pair_is (numbers (line_words (left c))) (y ∷ z ∷ []) b.line)

  pub parties-no-one : x ≡ 0 → parties (numbers (line_words (left at))) ≡ none
  parties-no-one e = three ∙ rw e

  module _ (n : x ≡ 0 → ⊥) where
    pub parties-no-output : z ≡ 0 → parties (numbers (line_words (left at))) ≡ none
    parties-no-output e = three ∙ rw (le-leb 1 x (omega arith), e)

    pub parties-good : (z ≡ 0 → ⊥) → PartiesAt at (record { one = x; two = y; output = z }) to
    parties-good m = record {
      line = three ∙ rw (le-leb 1 x (omega arith), le-leb 1 z (omega arith));
      next = record {
        rest = b.next.rest ∙ number-line at x c a;
        on = omega (arith, a.on, b.next.on);
        same = b.next.same
            ∙ a.same;
      };
    }

-- ---- the values in the tables

pub kept-first : (table : List ℕ) (v : ℕ) → Kept (set table 0 v) (v ∷ [])
kept-first table v = kept_more table [] 0 v refl (λ i h l. absurd (omega arith))

inputs-sum : (p : Parties) → sum (input_values p) ≡ p.one + p.two
inputs-sum p = go (eqb p.two 0) refl
  where
    go : (b : Bool) → eqb p.two 0 ≡ b → sum (input_values p) ≡ p.one + p.two
    go true e = let z : p.two ≡ 0 = eqb-true p.two 0 e in rw e (omega arith)
    go false e = rw e (omega arith)

-- ---- the header of lines

abbrev parties_of : List (List ℕ) → Option Parties
parties_of l = parties (numbers l)

no-counts : (o : Option (List ℕ)) (p : Option Parties) → pair_only o ≡ none → party_header o p ≡ none
no-counts o none e = refl
no-counts o (some p) e = no-pair o (some (input_values p)) (some (output_values p)) e

old-1 : (ls : List (List (List ℕ))) → Without pair_of ls → old_header ls ≡ none
old-1 [] e = refl
old-1 (a ∷ []) e = refl
old-1 (a ∷ (b ∷ ls)) e = no-counts (numbers a) (parties (numbers b)) e

old-2 : (a : List (List ℕ)) (ls : List (List (List ℕ))) → Without parties_of ls → old_header (a ∷ ls) ≡ none
old-2 a [] e = refl
old-2 a (b ∷ ls) e = rw e

-- ---- the header of a text: line one stands at a, line two at b' after b

module _ (z a : Cursor) (sa : Scanned is_blank z a) where
  pub no-old-header-1 : pair_only (numbers (line_words (left a))) ≡ none → old_header (word_lines (left z)) ≡ none
  no-old-header-1 e = ap old_header (start z a sa) ∙ old-1 (word_lines (left a)) (first-line pair_of z a sa e)

  module _ (g w : ℕ) (b : Cursor) (c : CountsAt a g w b) (b' : Cursor) (sb : Scanned is_blank b b') where
    pub no-old-header-2 : parties (numbers (line_words (left b'))) ≡ none → old_header (word_lines (left z)) ≡ none
    no-old-header-2 e =
        ap old_header (one z a sa g w b c b' sb)
        ∙ old-2 (line_words (left a)) (word_lines (left b')) (first-line parties_of b b' sb e)

    pub an-old-header : (p : Parties) (to : Cursor) → left z ≡ z.text.now → PartiesAt b' p to
        → (outs₀ : List ℕ) {ins outs : List ℕ} {n : ℕ}
        → (n ≡ length (input_values p)) × Kept ins
        (input_values p)
        → outs ≡ set outs₀ 0 p.output
        → HeaderOf Old z.text.now ins outs (record {
          gates = g;
          wires = w;
          input_values = n;
          input_bits
              = p.one + p.two;
          output_values = 1;
          output_bits = p.output;
        }) to
    an-old-header p to e x outs₀ {ins} {outs} {n} k o =
        let two : word_lines (left z) ≡ line_words (left a) ∷ (line_words (left b') ∷ word_lines (left to))
        = one z a sa g w b c b' sb
        ∙ ap (λ (ls : List (List (List ℕ))). line_words (left a) ∷ ls) (read-line parties_of refl b' p to x.line x.next)
        in
        record {
          is = record { count = g; wires = w; inputs = input_values p; outputs = output_values p };
          read = ap (λ (t : List ℕ). old_header (word_lines t)) (sym e) ∙ ap old_header two
              ∙ rw (x.line, pair z a sa g w b c b' sb);
          gates = refl;
          wires = refl;
          inputs = sym k.0;
          input_bits = inputs-sum p;
          outputs = refl;
          output_bits = omega arith;
          kept_in = k.1;
          kept_out = rw o (kept-first outs₀ p.output);
          place = following-its-line b b' sb to x.next ∙ ap next_line_of (following-its-line z a sa b c.next
              ∙ ap next_line_of e);
          same = ap (λ t. t.now) (x.next.same ∙ sb.same ∙ c.next.same ∙ sa.same);
        }
