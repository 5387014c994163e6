-- A gate line read word by word: each law takes one word off, or refuses the line.
use Prim.Native.Nat.{ℕ, ◌≤◌}
use Rattle.std.specs.Prelude as std
use mathlib.Core.Path.{◌≡◌, refl, sym, ap, ◌∙◌, subst}
use mathlib.Core.Bool.{false}
use mathlib.Core.List.{List, [], ◌∷◌}
use mathlib.Core.Option.{Option, none, some}
use native.Mathlib.Omega.{arith}
use Rattle.netlist.specs.declared.Gate.{Gate}
use Rattle.netlist.specs.declared.Gate.TheVariants as G
use Rattle.netlist.specs.Number.{number}
use Rattle.netlist.proofs.Tests.{clash}
use Rattle.text.specs.declared.cursor.Cursor.{Cursor}
use Rattle.text.specs.Line.{line_words, next_word, after_line, is_empty}
use Rattle.text.specs.Cursors.{left, NumberAt, WordIs, EndAt}
use Rattle.text.proofs.Splitting.{add_word}
use Rattle.text.proofs.Answering.{number_word, number-line, no_number, word-words, word_none, word-stays}
use Rattle.reader.specs.GateForm.{on_number, alone, named}
use Rattle.reader.specs.GateAnswers.{gate_named, named_for, NamedExact, LineNext, LineIs}
use Rattle.gates.specs.declared.GateNumbers.{GateNumbers}

-- ---- the same line from a place further on

pub line_same : (c : Cursor) (e f : Option Gate) (r : std.Option (GateNumbers × Cursor)) → e ≡ f → LineIs c f r
    → LineIs c e r
line_same c e f r h l = record { gate = l.gate ∙ sym h; numbers = l.numbers; next = l.next }

pub line-not : (c : Cursor) (e : Option Gate) → e ≡ none → LineIs c e std.None
line-not c e h = record { gate = sym h; numbers = tt; next = tt }

pub next-following : (c d : Cursor) → after_line (left d) ≡ after_line (left c) → c.at ≤ d.at → d.text ≡ c.text
    → (r : std.Option (GateNumbers × Cursor)) → LineNext d r → LineNext c r
next-following c d e h s (std.Some (g, x)) n = record { rest = n.rest ∙ e; on = omega (arith, n.on); same = n.same ∙ s }
next-following c d e h s std.None n = tt

-- ---- a number

module _ (c : Cursor) (f : ℕ → List (List ℕ) → Option Gate) where
  -- it was taken, and the rest of the line read
  pub line-following : (v : ℕ) (d : Cursor) (r : std.Option (GateNumbers × Cursor)) → NumberAt c v d
      → LineIs d (f v (line_words (left d))) r
      → LineIs c (on_number (line_words (left c)) f) r
  unfolding on_number
  line-following v d r n l = record {
    gate = l.gate ∙ sym (ap (λ (ws : List (List ℕ)). on_number ws f) (number_word c v d n) ∙ rw n.value);
    numbers = l.numbers;
    next = next-following c d (number-line c v d n) (omega (arith, n.on)) n.same r l.next;
  }

  -- there is none
  pub line-no-number : number (next_word (left c)) ≡ none → LineIs c (on_number (line_words (left c)) f) std.None
  unfolding on_number
  line-no-number h = line-not c _ (no_number (λ ws. on_number ws f ≡ none) (left c) h refl (λ w ws e. rw e))

-- ---- the name, and the line's end

alone-none : (ws : List (List ℕ)) → alone none ws ≡ none
unfolding alone
alone-none [] = refl
alone-none (w ∷ ws) = refl

-- the word at a place is the name, and the rest of the line was read
pub line-named : (f : List ℕ → Option Gate) → f [] ≡ none → (c : Cursor) (u : List ℕ) (d : Cursor) (g : Option Gate)
    (r : std.Option (GateNumbers × Cursor)) → WordIs c u d
    → g ≡ f u
    → LineIs d (alone g (line_words (left d))) r → LineIs c (named f (line_words (left c))) r
unfolding named
line-named f empty c u d g r w n l = record {
  gate = l.gate ∙ sym (go u refl ∙ ap (λ (g : Option Gate). alone g (line_words (left d))) (sym n));
  numbers = l.numbers;
  next = next-following c d (word-stays c u d w) w.on w.same r l.next;
}
  where
    go : (v : List ℕ) → u ≡ v → named f (line_words (left c)) ≡ alone (f v) (line_words (left d))
    go [] e =
        ap (named f) (word_none c u d w e) ∙ sym (alone-none (line_words (left d)))
        ∙ ap (λ (g : Option Gate). alone g (line_words (left d))) (sym empty)
    go (x ∷ v) e = ap (named f) (word-words c u d w ∙ ap (λ (v : List ℕ). add_word v (line_words (left d))) e)

-- what a name stands for
pub named-gate : (n : std.Option GateNumbers) (o : Option Gate) → n ≡ named_for o → gate_named n ≡ o
unfolding named_for
named-gate n o e = ap gate_named e ∙ go o
  where
    go : (o : Option Gate) → gate_named (named_for o) ≡ o
    go none = refl
    go (some (G.Xor a b c)) = refl
    go (some (G.And a b c)) = refl
    go (some (G.Inv a c)) = refl
    go (some (G.Eqw a c)) = refl
    go (some (G.Eq v c)) = refl

pub named-exact : (n : std.Option GateNumbers) (o : Option Gate) → n ≡ named_for o → NamedExact n
unfolding named_for
named-exact n o e = subst NamedExact (sym e) (go o)
  where
    go : (o : Option Gate) → NamedExact (named_for o)
    go none = tt
    go (some (G.Xor a b c)) = refl
    go (some (G.And a b c)) = refl
    go (some (G.Inv a c)) = refl
    go (some (G.Eqw a c)) = refl
    go (some (G.Eq v c)) = refl

module _ (c : Cursor) where
  -- no gate has the name
  pub last-unnamed : (n : std.Option GateNumbers) → n ≡ std.None → LineIs c (alone (gate_named n) (line_words (left c)))
      std.None
  last-unnamed n e = line-not c _ (ap (λ (g : std.Option GateNumbers). alone (gate_named g) (line_words (left c))) e
      ∙ alone-none (line_words (left c)))

  -- a word follows
  pub last_more : (g : Option Gate) → is_empty (line_words (left c)) ≡ false → LineIs c (alone g (line_words (left c)))
      std.None
  unfolding is_empty alone
  last_more g h = line-not c _ (go (line_words (left c)) h)
    where
      go : (ws : List (List ℕ)) → is_empty ws ≡ false → alone g ws ≡ none
      go [] e = clash (cc)
      go (w ∷ ws) e = refl

  -- the line ends
  pub last-gate : (n : std.Option GateNumbers) (g : GateNumbers) (d : Cursor) → n ≡ std.Some g → NamedExact n
      → EndAt c d
      → LineIs c (alone (gate_named n) (line_words (left c))) (std.Some (g, d))
  unfolding alone
  last-gate n g d p x e = record {
    gate = sym (ap (alone (gate_named n)) e.none ∙ ap gate_named p);
    numbers = subst NamedExact p x;
    next = record { rest = e.rest; on = e.on; same = e.same };
  }
