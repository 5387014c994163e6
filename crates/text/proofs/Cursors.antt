-- What is told of places, told of cursors.
use Prim.Native.Nat.{ℕ, ◌-◌, ◌≤◌}
use Rattle.std.specs.Prelude.{Option, Some, None}
use mathlib.Core.Path.{◌≡◌, sym, ap, ◌∙◌}
use mathlib.Core.Bool.{Bool}
use native.Mathlib.Omega.{arith}
use lib.ListN.{length, take, drop}
use Rattle.netlist.specs.Number.{number}
use Rattle.netlist.specs.Text.{is_space, word_lines}
use Rattle.text.specs.Line as L
use Rattle.text.specs.Answers as A
use Rattle.text.specs.Cursors.{left, Scanned, WordIs, LineTaken, NumberFrom, NumberIs}
use Rattle.text.specs.declared.cursor.Cursor.{Cursor}
use Rattle.text.proofs.DigitByDigit.{whole-next, none-next}
use Rattle.text.proofs.Scans.{scan-front}
use Rattle.text.proofs.Lines.{AtWord, at-word}
use Rattle.text.proofs.Splitting.{blank-lines}

-- a scan of cursors is one of places
module _ (p : ℕ → Bool) (c d : Cursor) (s : Scanned p c d) where
  pub within : d.at ≤ length c.text.now
  within = let l = d.within in rw (sym s.same) l

  pub places : L.Scanned p c.text.now c.at d.at
  places = record { left = ap (λ x. drop d.at x.now) (sym s.same) ∙ s.rest; on = s.on; within = within }

-- the number after spaces
pub number-found : (c d : Cursor) → d.text ≡ c.text → L.Scanned is_space c.text.now c.at d.at
    → (r : Option (ℕ × Cursor)) → NumberFrom d r → NumberIs c r
number-found c d e s (Some (v, x)) w =
    let n : A.NumberAt c.text.now c.at v x.at = whole-next c.text.now c.at d.at s v x.at (record {
      value = ap (λ y. number (A.word_from y.now d.at)) (sym e) ∙ w.value;
      left = ap (λ y. drop x.at y.now) (sym (w.same ∙ e)) ∙ w.rest ∙ ap (λ y. L.past_space (A.after_word y.now d.at)) e;
      on = w.on;
      within = let l = x.within in rw (sym (w.same ∙ e)) l;
    }) in
    record { value = n.value; rest = ap (λ y. drop x.at y.now) (w.same ∙ e) ∙ n.left; on = n.on; same = w.same ∙ e }
number-found c d e s None w = none-next c.text.now c.at d.at s (ap (λ y. number (A.word_from y.now d.at)) (sym e) ∙ w)

-- a scan over spaces and then one over a word find the next word
pub two-scans : (c s e : Cursor) → Scanned is_space c s → Scanned L.in_word s e
    → WordIs c (take (e.at - s.at) (drop s.at c.text.now)) e
unfolding L.next_word L.past_word
two-scans c s e a b = record {
  word = ap (λ x. take (e.at - s.at) (drop s.at x.now)) (sym a.same) ∙ scan-front L.in_word s.text.now s.at e.at
      (places L.in_word s e b)
      ∙ ap (L.take_while L.in_word) a.rest;
  rest = b.rest ∙ ap (L.drop_while L.in_word) a.rest;
  on = omega (arith, a.on, b.on);
  same = b.same ∙ a.same;
}

-- the next line, by places
pub line-places : (c d : Cursor) → LineTaken c d → L.LineTaken c.text.now c.at d.at
line-places c d l = record {
  left = ap (λ x. drop d.at x.now) (sym l.same) ∙ l.rest;
  on = l.on;
  within
      = (let b = d.within in rw (sym l.same) b);
}

-- ---- lines with words

-- blank lines were skipped
module _ (c d : Cursor) (s : Scanned L.is_blank c d) where
  pub stands-at-word : AtWord d.text.now d.at
  stands-at-word = rw (ap (λ t. t.now) s.same) (at-word c.text.now c.at d.at (places L.is_blank c d s))

  pub lines-following-blanks : word_lines (left d) ≡ word_lines (left c)
  lines-following-blanks = ap word_lines s.rest ∙ blank-lines (left c)

  -- and the line after them passed
  pub following-its-line : (e : Cursor) → LineTaken d e → left e ≡ L.next_line_of (left c)
  unfolding L.next_line_of
  following-its-line e l = l.rest ∙ ap L.after_line s.rest
