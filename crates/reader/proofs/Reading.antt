-- The gate lines read so far, and what the next one adds.
use Prim.Native.Nat.{ℕ, suc, ◌+◌, ◌-◌, ◌<◌, ◌≤◌}
use mathlib.Core.Path.{◌≡◌, refl, sym, ap, ap₂, ◌∙◌, subst}
use mathlib.Core.Bool.{Bool, true, false, cond, ◌&&◌, not}
use mathlib.Core.List.{List, [], ◌∷◌, ◌++◌, append_assoc, append-nil}
use mathlib.Core.Option.{none, some}
use native.Mathlib.Omega.{arith}
use lib.Dec.{eqb, leb, ltb}
use lib.ListN.{length, drop, set}
use borrow.Author.Tests.{eq-eqb, ne_eqb, eqb-true, eqb-false}
use Rattle.netlist.specs.declared.Gate.{Gate}
use Rattle.netlist.specs.Netlist.{result}
use Rattle.netlist.specs.Text.{word_lines}
use Rattle.netlist.specs.declared.Refusal.{Refusal}
use Rattle.netlist.specs.declared.Refusal.TheVariants as Q
use Rattle.netlist.specs.Refusal.{number_of}
use Rattle.netlist.specs.Outcome.{Outcome, refused, done, and_then}
use Rattle.netlist.specs.GateLine.{gate_line}
use Rattle.netlist.specs.Read.{operands_given, result_good, gate_lines}
use Rattle.netlist.specs.Table.{Tables, gates_of, Wired}
use Rattle.netlist.proofs.Tests.{on_bool}
use Rattle.dialect.specs.declared.Dialect.{Dialect}
use Rattle.dialect.specs.Dialects.{line_in, lines_in, has_gate}
use Rattle.dialect.proofs.GateNames.{line-none, line_refused, line_same, lines-first, lines_none}
use Rattle.text.specs.Line.{line_words, after_line, is_blank}
use Rattle.text.specs.Cursors.{left, LineTaken, Scanned}
use Rattle.text.specs.declared.cursor.Cursor.{Cursor}
use Rattle.text.proofs.Lines.{word_line, no_line}
use Rattle.text.proofs.Cursors.{stands-at-word, lines-following-blanks}
use Rattle.reader.specs.Marks.{marked, Marks}
use Rattle.reader.specs.GateLines.{Admitted, RefusedAt, GatesRead, GatesNot}
use Rattle.gates.specs.Entry.{Stored}
use Rattle.reader.proofs.Marking.{marks-operands, marks-result, marks-names, marks-on, free-below}

-- ---- questions 7 to 9 of one line

module _ (d : Dialect) (at : Cursor) (n W : ℕ) (given : List ℕ) where
  pub one-7 : none ≡ gate_line (line_words (left at)) → (rs : List ℕ) → Marks given n W rs → RefusedAt d at n W rs 7
  one-7 e rs m = record { same = λ ls. rw (line-none d (line_words (left at)) (sym e)) }

  -- a gate that the dialect lacks
  pub one-lacks : (g : Gate) → some g ≡ gate_line (line_words (left at)) → has_gate d g ≡ false → (rs : List ℕ)
      → Marks given n W rs
      → RefusedAt d at n W rs 7
  one-lacks g e h rs m = record { same = λ ls. rw (line_refused d (line_words (left at)) g (sym e) h) }

  module _ (g : Gate) (e' : some g ≡ gate_line (line_words (left at))) (h : has_gate d g ≡ true) where
    e : some g ≡ gate_line (line_in d (line_words (left at)))
    e = sym (line_same d (line_words (left at)) g (sym e') h)

    pub one-8 : operands_given (marked given) g ≡ false → (rs : List ℕ) → Marks given n W rs → RefusedAt d at n W rs 8
    one-8 o rs m = record { same = λ ls. rw (sym e) (rw (sym (marks-operands m g) ∙ o)) }

    module _ (o : operands_given (marked given) g ≡ true) (c : ℕ) (r : c ≡ result g) where
      free : (b : Bool) → (leb n c && ltb c W && not (marked given c)) ≡ b → (rs : List ℕ) → Marks given n W rs
          → result_good n W rs g ≡ b
      free b f rs m = sym (marks-result m g) ∙ ap (λ (x : ℕ). leb n x && ltb x W && not (marked given x)) (sym r) ∙ f

      pub one-9 : (leb n c && ltb c W && not (marked given c)) ≡ false → (rs : List ℕ) → Marks given n W rs
          → RefusedAt d at n W rs 9
      one-9 f rs m = record { same = λ ls. rw (sym e) (rw (sym (marks-operands m g) ∙ o) (rw (free false f rs m))) }

      pub one_on : (to : Cursor) (after : List ℕ) → (leb n c && ltb c W && not (marked given c)) ≡ true
          → LineTaken at to → after ≡ set given c 1
          → (rs : List ℕ) → Marks given n W rs → Admitted d at n W rs after g to
      one_on to after f l a rs m =
          let q : c < W = free-below n c W _ f in
          let p : Marks after n W (c ∷ rs) = subst (λ (x : List ℕ). Marks x n W (c ∷ rs)) (sym a) (marks-on c q m) in
          record {
            same = λ ls. rw (sym e) (rw (sym (marks-operands m g) ∙ o) (rw (free true f rs m)));
            marks = subst (λ (x : ℕ). Marks after n W (x ∷ rs)) r p;
            names = marks-names m g o (subst (λ (x : ℕ). x < W) r q);
            next = l;
          }

-- ---- all lines

-- gates, and those of what follows
abbrev following : List Gate → Outcome (List Gate) → Outcome (List Gate)
following gs o = and_then o λ hs. done (gs ++ hs)

following-one : (gs : List Gate) (g : Gate) (o : Outcome (List Gate)) → following gs (and_then o λ hs. done (g ∷ hs))
    ≡ following (gs ++ (g ∷ [])) o
following-one gs g (refused q) = refl
following-one gs g (done hs) = ap done (sym (append_assoc gs (g ∷ []) hs))

-- the first i lines from c are read, and the others begin at the place `at`
pub record Reading (d : Dialect) (c : Cursor) (n W : ℕ) (given : List ℕ) (tabs : Tables) (i at : ℕ) : Type 0 where
  pub results : List ℕ
  pub same : gate_lines n W [] (lines_in d (word_lines (left c))) ≡ following (gates_of tabs i)
      (gate_lines n W results (lines_in d (word_lines (drop at c.text.now))))
  pub lines : length (word_lines (left c)) ≡ i + length (word_lines (drop at c.text.now))
  pub marks : Marks given n W results
  pub wired : Wired tabs W i
  pub within : at ≤ length c.text.now

module _ {d : Dialect} {c : Cursor} {given : List ℕ} {n W : ℕ} {tabs : Tables} {i : ℕ} (at start : Cursor)
    (e : at.text ≡ c.text)
    (s : Reading d c n W given tabs i at.at) (b : Scanned is_blank at start)
  where
    text : start.text.now ≡ c.text.now
    text = ap (λ t. t.now) (b.same ∙ e)

    here : drop at.at c.text.now ≡ left at
    here = ap (λ t. drop at.at t.now) (sym e)

    same-here : gate_lines n W [] (lines_in d (word_lines (left c))) ≡ following (gates_of tabs i)
        (gate_lines n W s.results (lines_in d (word_lines (left at))))
    same-here = rw here at s.same

    lines-here : length (word_lines (left c)) ≡ i + length (word_lines (left at))
    lines-here = rw here at s.lines

    blanks : word_lines (left start) ≡ word_lines (left at)
    blanks = lines-following-blanks at start b

    first-here : start.at < length c.text.now → word_lines (left start) ≡ line_words (left start) ∷ word_lines
        (after_line (left start))
    first-here h = word_line start.text.now start.at (rw text h) (stands-at-word at start b)

    none-here : length c.text.now ≤ start.at → word_lines (left start) ≡ []
    none-here h = no_line start.text.now start.at (rw text h)

    -- the next line
    next-line : start.at < length c.text.now → word_lines (left at) ≡ line_words (left start) ∷ word_lines
        (after_line (left start))
    next-line h = sym blanks ∙ first-here h

    next-line-in : start.at < length c.text.now → lines_in d (word_lines (left at))
        ≡ line_in d (line_words (left start)) ∷ lines_in d (word_lines (after_line (left start)))
    next-line-in h = ap (lines_in d) (next-line h) ∙ lines-first d (line_words (left start))
        (word_lines (after_line (left start)))

    -- a line more
    pub reading-more : {after : List ℕ} {g : Gate} {to : Cursor} {tabs' : Tables} → start.at < length c.text.now
        → Admitted d start n W s.results after g to
        → Stored W tabs i g tabs' → Reading d c n W after tabs' (i + 1) to.at
    reading-more {after} {g} {to} {tabs'} h a u =
        let l = line_words (left start) in
        let ls = word_lines (after_line (left start)) in
        let there : left to ≡ drop to.at c.text.now = ap (λ t. drop to.at t.now) (a.next.same ∙ b.same ∙ e) in
        let f : word_lines (drop to.at c.text.now) ≡ ls = ap word_lines (sym there ∙ a.next.rest) in
        let k : length (word_lines (left at)) ≡ suc (length ls) = ap length (next-line h) in
        let j : length (word_lines (drop to.at c.text.now)) ≡ length ls = ap length f in
        record {
          results = result g ∷ s.results;
          same =
              same-here ∙ ap (λ (x : List (List (List ℕ))). following (gates_of tabs i) (gate_lines n W s.results x))
              (next-line-in h)
              ∙ ap (following (gates_of tabs i)) (a.same (lines_in d ls)) ∙ following-one (gates_of tabs i) g
              (gate_lines n W (result g ∷ s.results) (lines_in d ls))
              ∙ ap₂ (λ (gs : List Gate) (x : List (List (List ℕ))). following gs
              (gate_lines n W (result g ∷ s.results) (lines_in d x))) (sym u.gates) (sym f);
          lines = omega (arith, lines-here);
          marks = a.marks;
          wired = u.wired s.wired;
          within = (let w = to.within in rw (a.next.same ∙ b.same ∙ e) at w);
        }

    counted : (count : ℕ) → i ≤ count → eqb (length (word_lines (left c))) count
        ≡ eqb (length (word_lines (left start))) (count - i)
    counted count h =
        let k : length (word_lines (left start)) ≡ length (word_lines (left at)) = ap length blanks in
        on_bool (eqb (length (word_lines (left start))) (count - i))
        (λ p. let q : length (word_lines (left start)) ≡ count - i = eqb-true _ _ p in
        rw p (eq-eqb (length (word_lines (left c))) count (omega (arith, lines-here))))
        (λ p. let q : length (word_lines (left start)) ≡ count - i → ⊥ = eqb-false _ _ p in
        rw p (ne_eqb (length (word_lines (left c))) count (λ r. q (omega (arith, lines-here)))))

    -- there is no further line, and there should be
    pub reading-short : (count : ℕ) → i < count → length c.text.now ≤ start.at → GatesNot d (left c) count n W 6
    reading-short count h l =
        let k : length (word_lines (left start)) ≡ 0 = ap length (none-here l) in
        record {
          refuses = rw (
            counted count (omega arith),
            ne_eqb (length (word_lines (left start))) (count - i)
                (λ p. omega arith),
          );
        }

    -- the next line is refused
    pub reading-refused : (count q : ℕ) → i ≤ count → start.at < length c.text.now → RefusedAt d start n W s.results q
        → GatesNot d (left c) count n W (cond (eqb (length (word_lines (left start))) (count - i)) q 6)
    reading-refused count q h l r =
        let f : gate_lines n W [] (lines_in d (word_lines (left c))) ≡ refused q =
        same-here ∙ ap (λ (x : List (List (List ℕ))). following (gates_of tabs i) (gate_lines n W s.results x))
        (next-line-in l)
        ∙ ap (following (gates_of tabs i)) (r.same (lines_in d (word_lines (after_line (left start))))) in
        on_bool (eqb (length (word_lines (left start))) (count - i))
        (λ p. record { refuses = rw (counted count h, p) f })
        (λ p. record { refuses = rw (counted count h, p) })

    -- all lines are read, and there is one more
    pub reading-more-left : (count : ℕ) → i ≤ count → count ≤ i → start.at < length c.text.now
        → GatesNot d (left c) count n W 6
    reading-more-left count h h' l =
        let k : length (word_lines (left start)) ≡ suc (length (word_lines (after_line (left start))))
        = ap length (first-here l) in
        record {
          refuses = rw (
            counted count h,
            ne_eqb (length (word_lines (left start))) (count - i)
                (λ p. omega arith),
          );
        }

    -- all lines are read
    pub reading-all : (count : ℕ) → i ≤ count → count ≤ i → length c.text.now ≤ start.at → GatesRead d (left c) count n
        W tabs
    reading-all count h h' l =
        let z : i ≡ count = omega arith in
        let k : length (word_lines (left start)) ≡ 0 = ap length (none-here l) in
        let f : gate_lines n W [] (lines_in d (word_lines (left c))) ≡ done (gates_of tabs i) =
        same-here
        ∙ ap (λ (x : List (List (List ℕ))). following (gates_of tabs i) (gate_lines n W s.results x))
        (ap (lines_in d) (sym blanks ∙ none-here l) ∙ lines_none d)
        ∙ ap done (append-nil (gates_of tabs i)) in
        record {
          lines = rw (counted count h, eq-eqb (length (word_lines (left start))) (count - i) (omega arith))
              (f ∙ ap (λ (x : ℕ). done (gates_of tabs x)) z);
          wired = subst (Wired tabs W) z s.wired;
        }

-- question 6 comes before the one that a line is refused by
pub first-number : (b : Bool) (q : Refusal) → number_of (cond b q Q.Count) ≡ cond b (number_of q) 6
first-number true q = refl
first-number false q = refl
