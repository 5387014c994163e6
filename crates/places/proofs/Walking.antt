-- The gate lines that passed so far, and what the next one adds.
use Prim.Native.Nat.{ℕ, ◌+◌, ◌<◌, ◌≤◌}
use Rattle.std.specs.Prelude.{Option, Some, None}
use mathlib.Core.Path.{◌≡◌, refl, sym, ap, ap₂, ◌∙◌, subst}
use mathlib.Core.Bool.{Bool, true, false, cond, ◌&&◌, not}
use mathlib.Core.List.{List, [], ◌∷◌, ◌++◌, append_assoc, append-nil}
use mathlib.Core.Option as maybe
use mathlib.Core.Option.{none, some}
use native.Mathlib.Omega.{arith}
use lib.Dec.{leb, ltb}
use lib.ListN.{length, drop, set, length-append}
use Rattle.netlist.specs.declared.Gate.{Gate}
use Rattle.netlist.specs.declared.Gate.TheVariants.{Xor, And, Inv, Eqw, Eq}
use Rattle.netlist.specs.declared.Refusal.{Refusal}
use Rattle.netlist.specs.declared.Refusal.TheVariants as Q
use Rattle.netlist.specs.Refusal.{number_of}
use Rattle.netlist.specs.Netlist.{result}
use Rattle.netlist.specs.Text.{word_lines}
use Rattle.netlist.specs.Outcome.{Outcome, refused, done, and_then}
use Rattle.netlist.specs.GateLine.{gate_line}
use Rattle.netlist.specs.GateReader.{Said, gate, end, no, says}
use Rattle.netlist.specs.Read.{operands_given, is_given, result_good, gate_lines}
use Rattle.netlist.proofs.Tests.{clash, on_bool}
use Rattle.text.specs.Line.{next_line_of}
use Rattle.text.proofs.Lines.{following-line}
use Rattle.reader.specs.Marks.{marked, Marks}
use Rattle.reader.proofs.Marking.{marks-operands, marks-result, marks-on, free-below}
use Rattle.places.specs.GateWords.{lacking, result_word, result_refused, after_operands, gate_refused}
use Rattle.places.specs.Lines.{results_of, line_refused, AllPass, LinesIs}

-- ---- what the reader says of the lines that are left

abbrev Line : Type 0
Line = List (List ℕ)

none-says : (ls : List Line) → end ≡ says ls → ls ≡ []
unfolding says
none-says [] e = refl
none-says (l ∷ ls) e = go (gate_line l) e
  where
    go : (o : maybe.Option Gate) → end ≡ Rattle.netlist.specs.GateReader.line_says o → (l ∷ ls) ≡ []
    go none h = clash (cc)
    go (some g) h = clash (cc)

no-says : (q : ℕ) (ls : List Line) → no q ≡ says ls → (l : Line) × (rs : List Line) × (ls ≡ l ∷ rs) × (gate_line l ≡ none)
unfolding says
no-says q [] e = clash (cc)
no-says q (l ∷ ls) e = (l, ls, refl, go (gate_line l) e)
  where
    go : (o : maybe.Option Gate) → no q ≡ Rattle.netlist.specs.GateReader.line_says o → o ≡ none
    go none h = refl
    go (some g) h = clash (cc)

gate-says : (g : Gate) (ls : List Line) → gate g ≡ says ls → (l : Line) × (rs : List Line) × (ls ≡ l ∷ rs)
    × (gate_line l ≡ some g)
unfolding says
gate-says g [] e = clash (cc)
gate-says g (l ∷ ls) e = (l, ls, refl, go (gate_line l) e)
  where
    go : (o : maybe.Option Gate) → gate g ≡ Rattle.netlist.specs.GateReader.line_says o → o ≡ some g
    go none h = clash (cc)
    go (some f) h = cc

-- ---- the words of a gate

lacks : (has : ℕ → Bool) (g : Gate) (w : ℕ) → lacking has g ≡ Some w → operands_given has g ≡ false
lacks has (Xor a b c) w = go (has a) (has b)
  where
    go : (x y : Bool) → cond x (cond y None (Some 3)) (Some 2) ≡ Some w → (x && y) ≡ false
    go true true e = clash (cc)
    go true false e = refl
    go false y e = refl
lacks has (And a b c) w = go (has a) (has b)
  where
    go : (x y : Bool) → cond x (cond y None (Some 3)) (Some 2) ≡ Some w → (x && y) ≡ false
    go true true e = clash (cc)
    go true false e = refl
    go false y e = refl
lacks has (Inv a c) w = go (has a)
  where
    go : (x : Bool) → cond {A = Option ℕ} x None (Some 2) ≡ Some w → x ≡ false
    go true e = clash (cc)
    go false e = refl
lacks has (Eqw a c) w = go (has a)
  where
    go : (x : Bool) → cond {A = Option ℕ} x None (Some 2) ≡ Some w → x ≡ false
    go true e = clash (cc)
    go false e = refl
lacks has (Eq v c) w = go (ltb v 2)
  where
    go : (x : Bool) → cond {A = Option ℕ} x None (Some 2) ≡ Some w → x ≡ false
    go true e = clash (cc)
    go false e = refl

has-all : (has : ℕ → Bool) (g : Gate) → lacking has g ≡ None → operands_given has g ≡ true
has-all has (Xor a b c) = go (has a) (has b)
  where
    go : (x y : Bool) → cond {A = Option ℕ} x (cond y None (Some 3)) (Some 2) ≡ None → (x && y) ≡ true
    go true true e = refl
    go true false e = clash (cc)
    go false y e = clash (cc)
has-all has (And a b c) = go (has a) (has b)
  where
    go : (x y : Bool) → cond {A = Option ℕ} x (cond y None (Some 3)) (Some 2) ≡ None → (x && y) ≡ true
    go true true e = refl
    go true false e = clash (cc)
    go false y e = clash (cc)
has-all has (Inv a c) = go (has a)
  where
    go : (x : Bool) → cond {A = Option ℕ} x None (Some 2) ≡ None → x ≡ true
    go true e = refl
    go false e = clash (cc)
has-all has (Eqw a c) = go (has a)
  where
    go : (x : Bool) → cond {A = Option ℕ} x None (Some 2) ≡ None → x ≡ true
    go true e = refl
    go false e = clash (cc)
has-all has (Eq v c) = go (ltb v 2)
  where
    go : (x : Bool) → cond {A = Option ℕ} x None (Some 2) ≡ None → x ≡ true
    go true e = refl
    go false e = clash (cc)

abbrev asked : Option (Refusal × ℕ) → Refusal
asked (Some (q, w)) = q
asked None = Q.Line

-- the table's test is that of the inputs and the results
module _ {given rs : List ℕ} {n W : ℕ} (m : Marks given n W rs) where
  same-lacking : (g : Gate) → lacking (marked given) g ≡ lacking (is_given n rs) g
  same-lacking (Xor a b c) = ap₂ (λ (x y : Bool). cond x (cond y None (Some 3)) (Some 2)) (m.each a) (m.each b)
  same-lacking (And a b c) = ap₂ (λ (x y : Bool). cond x (cond y None (Some 3)) (Some 2)) (m.each a) (m.each b)
  same-lacking (Inv a c) = ap (λ (x : Bool). cond {A = Option ℕ} x None (Some 2)) (m.each a)
  same-lacking (Eqw a c) = ap (λ (x : Bool). cond {A = Option ℕ} x None (Some 2)) (m.each a)
  same-lacking (Eq v c) = refl

  same-word : (g : Gate) → gate_refused (marked given) n W g ≡ gate_refused (is_given n rs) n W g
  same-word g = ap₂ after_operands (same-lacking g)
      (ap (λ (x : Bool). cond (leb n (result g) && ltb (result g) W && not x) None (Some (Q.Wire, result_word g)))
      (m.each (result g)))

  -- the question that refuses a gate
  gate-no : (g : Gate) (q : Refusal) (w : ℕ) → gate_refused (marked given) n W g ≡ Some (q, w) → (l : Line)
      → gate_line l ≡ some g → (ls : List Line) → gate_lines n W rs (l ∷ ls) ≡ refused (number_of q)
  gate-no g q w e l h ls = go (lacking (marked given) g) refl e
    where
      go : (o : Option ℕ) → lacking (marked given) g ≡ o → after_operands o (result_refused (marked given) n W g)
          ≡ Some (q, w) → gate_lines n W rs (l ∷ ls) ≡ refused (number_of q)
      go (Some v) p r =
          let k : operands_given (is_given n rs) g ≡ false = sym (marks-operands m g) ∙ lacks _ g v p in
          let s : Q.Operands ≡ q = ap asked r in
          rw h (rw k (ap (λ x. refused (number_of x)) s))
      go None p r =
          let k : operands_given (is_given n rs) g ≡ true = sym (marks-operands m g) ∙ has-all _ g p in
          on_bool (leb n (result g) && ltb (result g) W && not (marked given (result g)))
          (λ t. clash (let u = rw t at r in cc))
          (λ t.
          let u : result_good n W rs g ≡ false = sym (marks-result m g) ∙ t in
          let v : Some (Q.Wire, result_word g) ≡ Some (q, w) = rw t at r in
          let s : Q.Wire ≡ q = ap asked v in
          rw h (rw k (rw u (ap (λ x. refused (number_of x)) s))))

  -- a gate that passes
  record Passes (g : Gate) : Type 0 where
    pub operands : operands_given (is_given n rs) g ≡ true
    pub result_wire : result_good n W rs g ≡ true
    pub low : result g < W

  gate-yes : (g : Gate) → gate_refused (marked given) n W g ≡ None → Passes g
  gate-yes g e = go (lacking (marked given) g) refl e
    where
      go : (o : Option ℕ) → lacking (marked given) g ≡ o → after_operands o (result_refused (marked given) n W g)
          ≡ None → Passes g
      go (Some v) p r = clash (cc)
      go None p r =
          on_bool (leb n (result g) && ltb (result g) W && not (marked given (result g)))
          (λ t. record {
            operands = sym (marks-operands m g) ∙ has-all _ g p;
            result_wire = sym (marks-result m g) ∙ t;
            low = free-below n (result g) W _ t;
          })
          (λ t. clash (let u = rw t at r in cc))

-- ---- lines

results-more : (rs : List ℕ) (gs : List Gate) (g : Gate) → results_of rs (gs ++ (g ∷ [])) ≡ result g ∷ results_of rs gs
results-more rs [] g = refl
results-more rs (f ∷ gs) g = results-more (result f ∷ rs) gs g

abbrev following : List Gate → Outcome (List Gate) → Outcome (List Gate)
following gs o = and_then o λ hs. done (gs ++ hs)

following-one : (gs : List Gate) (g : Gate) (o : Outcome (List Gate)) → following gs (and_then o λ hs. done (g ∷ hs))
    ≡ following (gs ++ (g ∷ [])) o
following-one gs g (refused q) = refl
following-one gs g (done hs) = ap done (sym (append_assoc gs (g ∷ []) hs))

-- so many lines passed, and the others begin at a place
pub record Walking (t : List ℕ) (from n W : ℕ) (given : List ℕ) (line at : ℕ) : Type 0 where
  pub front : List Line
  pub gates : List Gate
  pub parts : word_lines (drop from t) ≡ front ++ word_lines (drop at t)
  pub count : 3 + length front ≡ line
  pub passed : (ls : List Line) → gate_lines n W [] (front ++ ls)
      ≡ following gates (gate_lines n W (results_of [] gates) ls)
  pub marks : Marks given n W (results_of [] gates)
  pub few : line ≤ at + 3

pub walking-start : (t : List ℕ) (from n W : ℕ) (given : List ℕ) → Marks given n W [] → Walking t from n W given 3 from
walking-start t from n W given m = record {
  front = [];
  gates = [];
  parts = refl;
  count = refl;
  passed = λ ls. nothing (gate_lines n W [] ls);
  marks = m;
  few = omega arith;
}
  where
    nothing : (o : Outcome (List Gate)) → o ≡ following [] o
    nothing (refused q) = refl
    nothing (done hs) = refl

module _ {t given : List ℕ} {from n W line at : ℕ} (w : Walking t from n W given line at) where
  front-passed : gate_lines n W [] w.front ≡ done w.gates
  front-passed = sym (ap (gate_lines n W []) (append-nil w.front)) ∙ w.passed [] ∙ ap done (append-nil w.gates)

  pub walking-end : end ≡ says (word_lines (drop at t)) → AllPass n W (word_lines (drop from t))
  walking-end e = record {
    gates = w.gates;
    read = ap (gate_lines n W []) (w.parts ∙ ap (λ (ls : List Line). w.front ++ ls) (none-says _ e)
        ∙ append-nil w.front)
        ∙ front-passed;
  }

  -- the next line is refused
  refused-at : (l : Line) (ls : List Line) → word_lines (drop at t) ≡ l ∷ ls → (q : Refusal) (k : ℕ)
      → ((ls : List Line) → gate_lines n W (results_of [] w.gates) (l ∷ ls) ≡ refused (number_of q))
      → line_refused (is_given n (results_of [] w.gates)) n W (gate_line l) ≡ Some (q, k)
      → LinesIs n W (word_lines (drop from t)) (Some (record { line = line; question = q; word = k }))
  refused-at l ls e q k f h =
      let parts : word_lines (drop from t) ≡ w.front ++ (l ∷ ls)
      = w.parts ∙ ap (λ (x : List Line). w.front ++ x) e in (
        record {
          front = w.front;
          line = l;
          others = ls;
          gates = w.gates;
          parts = parts;
          place = w.count;
          passed = front-passed;
          refuses = w.passed (l ∷ []) ∙ ap (following w.gates) (f []);
          word = h;
        },
        ap (gate_lines n W []) parts ∙ w.passed (l ∷ ls) ∙ ap (following w.gates) (f ls),
      )

  pub walking-no : (q : ℕ) → no q ≡ says (word_lines (drop at t))
      → LinesIs n W (word_lines (drop from t)) (Some (record { line = line; question = Q.Line; word = 0 }))
  walking-no q e =
      let s = no-says q _ e in
      refused-at s.0 s.1 s.2 Q.Line 0 (λ ls. rw s.3 refl) (rw s.3 refl)

  module _ (g : Gate) (e : gate g ≡ says (word_lines (drop at t))) where
    pub walking-refused : (q : Refusal) (k : ℕ) → gate_refused (marked given) n W g ≡ Some (q, k)
        → LinesIs n W (word_lines (drop from t)) (Some (record { line = line; question = q; word = k }))
    walking-refused q k h =
        let s = gate-says g _ e in
        refused-at s.0 s.1 s.2 q k (gate-no w.marks g q k h s.0 s.3)
        (ap (line_refused (is_given n (results_of [] w.gates)) n W) s.3 ∙ sym (same-word w.marks g) ∙ h)

    pub walking-low : gate_refused (marked given) n W g ≡ None → result g < length given
    walking-low h = let p = gate-yes w.marks g h in omega (arith, p.low, w.marks.room)

    pub walking-on : (to : ℕ) → gate_refused (marked given) n W g ≡ None → drop to t ≡ next_line_of (drop at t) → at < to
        → Walking t from n W (set given (result g) 1) (line + 1) to
    walking-on to h d b =
        let s = gate-says g _ e in
        let p = gate-yes w.marks g h in
        let rs = results_of [] w.gates in
        let next : word_lines (drop to t) ≡ s.1
        = ap word_lines d ∙ following-line (drop at t) ∙ ap (drop 1) s.2 in
        let more : results_of [] (w.gates ++ (g ∷ [])) ≡ result g ∷ rs = results-more [] w.gates g in
        record {
          front = w.front ++ (s.0 ∷ []);
          gates = w.gates ++ (g ∷ []);
          parts = w.parts ∙ ap (λ (x : List Line). w.front ++ x) (s.2 ∙ ap (λ (x : List Line). s.0 ∷ x) (sym next))
              ∙ sym (append_assoc w.front (s.0 ∷ []) (word_lines (drop to t)));
          count = omega (arith, w.count, length-append w.front (s.0 ∷ []));
          passed = λ ls. ap (gate_lines n W []) (append_assoc w.front (s.0 ∷ []) ls) ∙ w.passed (s.0 ∷ ls)
              ∙ ap (following w.gates) (step s.0 s.3 ls p.operands p.result_wire)
              ∙ following-one w.gates g (gate_lines n W (result g ∷ rs) ls)
              ∙ ap (λ (x : List ℕ). following (w.gates ++ (g ∷ [])) (gate_lines n W x ls)) (sym more);
          marks = subst (Marks (set given (result g) 1) n W) (sym more) (marks-on (result g) p.low w.marks);
          few = omega (arith, w.few);
        }
      where
        step : (l : Line) → gate_line l ≡ some g → (ls : List Line)
            → operands_given (is_given n (results_of [] w.gates)) g ≡ true
            → result_good n W (results_of [] w.gates) g ≡ true
            → gate_lines n W (results_of [] w.gates) (l ∷ ls)
            ≡ (and_then (gate_lines n W (result g ∷ results_of [] w.gates) ls) λ hs. done (g ∷ hs))
        step l a ls o r = rw a (rw o (rw r refl))
