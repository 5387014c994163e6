-- Marks on the variables that output lines put out.
use Prim.Native.Nat.{ℕ, ◌+◌, ◌/◌, ◌<◌, ◌≤◌}
use mathlib.Core.Path.{◌≡◌, sym, ap, subst, ◌∙◌}
use mathlib.Core.Bool.{Bool, true, false}
use mathlib.Core.List.{List, [], ◌∷◌, ◌++◌}
use mathlib.Core.Option.{some}
use native.Mathlib.Omega.{arith}
use lib.Dec.{eqb, ltb}
use lib.ListN.{length, get_or, set}
use lib.Seq.{get_or-set_same, get_or-set_other}
use Rattle.std.specs.Bool.{MatchBool}
use Rattle.std.specs.List.{zip, AllWithin, HoldsAt}
use Rattle.std.proofs.lemmas.Slice.Zip.{length-zip, get_or-zip}
use borrow.Author.Tests.{eqb-true, eqb-false, ltb-true, ltb-false}
use Rattle.netlist.specs.Lists.{every, member}
use Rattle.netlist.proofs.Tests.{on_bool}
use Rattle.netlist.proofs.Questions.{some_same}
use Rattle.aiger.specs.File.{Literal, literal}
use Rattle.aiger.specs.Lines.{output_line, formed}
use Rattle.aiger.specs.Rules.{readable}
use Rattle.aiger.specs.Made.{wire_at}
use Rattle.from_aiger.specs.LineAnswers.{at_front, LineNot, OneAt}
use Rattle.from_aiger.specs.Places.{Places}
use Rattle.from_aiger.proofs.Placing.{literal-low, literal-readable}
use Rattle.from_aiger.proofs.LineByLine.{Split, formed-split}
use Rattle.from_aiger.specs.OutAnswers.{marked, PutOut, UpTo, MarksAt}
use Rattle.from_aiger.proofs.OutLines.{output-line, literals-more, literals-no, every-snoc, every_front, every_here}

-- ---- marks

module _ {M : ℕ} {marks : List ℕ} {are : List Literal} (P : PutOut M marks are) (x : ℕ) (up : x / 2 ≤ M)
    (inside : x / 2 < length marks) where
  out-constant : x < 2 → PutOut M marks (are ++ (literal x ∷ []))
  out-constant h = record {
    needed = λ given e. P.needed given (every_front (readable given) are (literal x ∷ []) e);
    enough = λ given a. every-snoc (readable given) are (literal x) (P.enough given a)
        (ap (readable given) (literal-low x h));
  }

  out-variable : 2 ≤ x → PutOut M (set marks (x / 2) 1) (are ++ (literal x ∷ []))
  out-variable h = record {
    needed = λ given e v l m. on_bool (eqb v (x / 2))
        (λ b. rw (eqb-true v (x / 2) b) (sym (literal-readable x h given) ∙ every_here (readable given) are (literal x)
        [] e))
        (λ b. P.needed given (every_front (readable given) are (literal x ∷ []) e) v l
        (rw (get_or-set_other marks (x / 2) v 1 0 (eqb-false v (x / 2) b)) at m));
    enough = λ given a. every-snoc (readable given) are (literal x)
        (P.enough given (λ v l m. a v l (on_bool (eqb v (x / 2))
        (λ b. rw (eqb-true v (x / 2) b, get_or-set_same marks (x / 2) 1 0 inside) (omega arith))
        (λ b. rw (get_or-set_other marks (x / 2) v 1 0 (eqb-false v (x / 2) b)) m))))
        (literal-readable x h given ∙ a (x / 2) up (rw (get_or-set_same marks (x / 2) 1 0 inside) (omega arith)));
  }

  pub out-more : PutOut M (marked marks x) (are ++ (literal x ∷ []))
  out-more = on_bool (ltb x 2)
      (λ b. rw b (out-constant (ltb-true x 2 b)))
      (λ b. rw b (out-variable (ltb-false x 2 b)))

-- ---- lines

module _ {ls left : List (List (List ℕ))} {i M : ℕ} {marks : List ℕ} (A : MarksAt ls i M marks left) where
  pub marks-more : {x : ℕ} {rest : List (List (List ℕ))} → OneAt left x rest → x / 2 ≤ M → x / 2 < length marks
      → MarksAt ls (i + 1) M (marked marks x) rest
  marks-more {x} O up inside = record {
    are = A.are ++ (literal x ∷ []);
    literals = literals-more A.literals O;
    out
        = out-more A.out x up inside;
  }

  pub marks-no : (lines : ℕ) → i < lines → LineNot left 1 → (xs : List Literal) → formed output_line lines ls ≡ some xs
      → (given : List ℕ) → UpTo M given → every (readable given) xs ≡ true → ⊥
  marks-no lines h n xs e given up r = literals-no A.literals lines h n xs e

  -- a variable above M
  pub marks-high : (lines : ℕ) → i < lines → {x : ℕ} {rest : List (List (List ℕ))} → OneAt left x rest → M < x / 2
      → (xs : List Literal) → formed output_line lines ls ≡ some xs → (given : List ℕ) → UpTo M given
      → every (readable given) xs ≡ true → ⊥
  marks-high lines h {x} O high xs e given up r =
      let Q : Split output_line i ls xs = formed-split output_line i lines ls xs h e in
      let s : literal x ≡ Q.here = some_same (literal x) Q.here
      (sym (output-line O) ∙ ap (at_front output_line) A.literals.next ∙ Q.line) in
      let k : readable given (literal x) ≡ true = ap (readable given) s
      ∙ every_here (readable given) Q.front Q.here Q.rest (ap (every (readable given)) Q.all ∙ r) in
      let l = up (x / 2) (sym (literal-readable x (omega arith) given) ∙ k) in
      omega arith

-- ---- whether the variables that have a mark are given

-- a variable without a mark, or with a wire
abbrev pub Lets : ℕ × ℕ → Type 0
Lets p = 1 ≤ p.1 → 1 ≤ p.0

abbrev pub Misses : ℕ × ℕ → Type 0
Misses p = (1 ≤ p.1) × (p.0 ≡ 0)

module _ {table given wires : List ℕ} (P : Places table given wires) {M : ℕ} {marks : List ℕ} {are : List Literal}
    (O : PutOut M marks are)
    (same : length table ≡ length marks) (size : length marks ≡ M + 1) where
  pairs-many : length (zip table marks) ≡ M + 1
  pairs-many = omega (arith, length-zip table marks)

  pair-at : (v : ℕ) → v ≤ M → get_or (zip table marks) v (0, 0) ≡ (get_or table v 0, get_or marks v 0)
  pair-at v l = get_or-zip table marks v (0, 0) (omega arith) (omega arith)

  pub given_from : (r : Bool) → MatchBool r (AllWithin Lets (zip table marks) 0 (length (zip table marks)))
      ((k : ℕ) × (k < length (zip table marks)) × HoldsAt Misses (zip table marks) k)
      → r ≡ every (readable given) are
  given_from true h = sym (O.enough given (λ v l m. on_bool (member v given)
      (λ e. e)
      (λ e. let w : Lets (get_or table v 0, get_or marks v 0)
      = subst Lets (pair-at v l) (h v (0, 0) (omega arith) (omega (arith, pairs-many))) in
      let z : get_or table v 0 ≡ 0 = P.each v ∙ rw e in
      let y = w m in absurd (omega arith))))
  given_from false h =
      let l : h.0 ≤ M = (let b = h.1 in omega (arith, pairs-many)) in
      let w : Misses (get_or table h.0 0, get_or marks h.0 0) = subst Misses (pair-at h.0 l) (h.2 (0, 0)) in
      on_bool (every (readable given) are)
      (λ e. let g = O.needed given e h.0 l w.0 in
      let z : get_or table h.0 0 ≡ wire_at wires h.0 + 1 = P.each h.0 ∙ rw g in
      let y = w.1 in absurd (omega arith))
      (λ e. sym e)
