-- The output lines, one after another.
use Prim.Native.Nat.{ℕ, ◌+◌, ◌<◌}
use mathlib.Core.Path.{◌≡◌, refl, sym, ap, ◌∙◌}
use mathlib.Core.Bool.{Bool, true, false, ◌&&◌}
use mathlib.Core.List.{List, [], ◌∷◌, ◌++◌}
use mathlib.Core.Option.{Option, none, some}
use lib.ListN.{drop}
use lib.Seq.{drop-drop}
use Rattle.netlist.specs.Lists.{every}
use Rattle.netlist.proofs.Tests.{both_true}
use Rattle.netlist.proofs.Questions.{none-some}
use Rattle.aiger.specs.File.{Literal, literal}
use Rattle.aiger.specs.Lines.{one_literal, output_line, formed}
use Rattle.from_aiger.specs.LineAnswers.{at_front, first_numbers, LineNot, OneAt}
use Rattle.from_aiger.proofs.LineByLine.{formed-snoc, Split, formed-split}
use Rattle.from_aiger.specs.OutAnswers.{LiteralsAt}

-- ---- a line of one number

front-output : (ls : List (List (List ℕ))) → at_front output_line ls ≡ one_literal (first_numbers ls)
front-output [] = refl
front-output (l ∷ ls) = refl

-- it puts out its literal
pub output-line : {ls left : List (List (List ℕ))} {x : ℕ} → OneAt ls x left → at_front output_line ls
    ≡ some (literal x)
output-line {ls} O = front-output ls ∙ ap one_literal O.line

one_number : (o : Option (List ℕ)) (l : Literal) → one_literal o ≡ some l → (x : ℕ) × (o ≡ some (x ∷ []))
one_number none l e = absurd (none-some l e)
one_number (some []) l e = absurd (none-some l e)
one_number (some (x ∷ [])) l e = (x, refl)
one_number (some (x ∷ (y ∷ ys))) l e = absurd (none-some l e)

no_output : {ls : List (List (List ℕ))} → LineNot ls 1 → (l : Literal) → at_front output_line ls ≡ some l → ⊥
no_output {ls} n l e = let p = one_number (first_numbers ls) l (sym (front-output ls) ∙ e) in n.none (p.0 ∷ []) p.1 refl

-- ---- lines

module _ {ls left : List (List (List ℕ))} {i : ℕ} {are : List Literal} (A : LiteralsAt ls i are left) where
  pub literals-more : {x : ℕ} {rest : List (List (List ℕ))} → OneAt left x rest
      → LiteralsAt ls (i + 1) (are ++ (literal x ∷ [])) rest
  literals-more {x} O = record {
    form = formed-snoc output_line i ls are (literal x) A.form (ap (at_front output_line) (sym A.next) ∙ output-line O);
    next = O.next ∙ ap (drop 1) A.next ∙ drop-drop 1 i ls;
  }

  pub literals-no : (lines : ℕ) → i < lines → LineNot left 1 → (xs : List Literal) → formed output_line lines ls
      ≡ some xs → ⊥
  literals-no lines h n xs e =
      let P : Split output_line i ls xs = formed-split output_line i lines ls xs h e in
      no_output n P.here (ap (at_front output_line) A.next ∙ P.line)

-- ---- a test of all of some literals

pub every-snoc : (p : Literal → Bool) (xs : List Literal) (x : Literal) → every p xs ≡ true → p x ≡ true
    → every p (xs ++ (x ∷ [])) ≡ true
every-snoc p [] x e h = ap (λ (b : Bool). b && true) h
every-snoc p (y ∷ ys) x e h =
    let q = both_true (p y) (every p ys) e in
    ap (λ (b : Bool). b && every p (ys ++ (x ∷ []))) q.0 ∙ every-snoc p ys x q.1 h

pub every_front : (p : Literal → Bool) (xs rest : List Literal) → every p (xs ++ rest) ≡ true → every p xs ≡ true
every_front p [] rest e = refl
every_front p (y ∷ ys) rest e =
    let q = both_true (p y) (every p (ys ++ rest)) e in
    ap (λ (b : Bool). b && every p ys) q.0 ∙ every_front p ys rest q.1

pub every_here : (p : Literal → Bool) (xs : List Literal) (x : Literal) (rest : List Literal)
    → every p (xs ++ (x ∷ rest)) ≡ true → p x ≡ true
every_here p [] x rest e = (both_true (p x) (every p rest) e).0
every_here p (y ∷ ys) x rest e = every_here p ys x rest (both_true (p y) _ e).1

pub every-no : (p : Literal → Bool) (xs : List Literal) (x : Literal) (rest : List Literal) → p x ≡ false
    → every p (xs ++ (x ∷ rest)) ≡ false
every-no p [] x rest e = ap (λ (b : Bool). b && every p rest) e
every-no p (y ∷ ys) x rest e = ap (λ (b : Bool). p y && b) (every-no p ys x rest e) ∙ no_more (p y)
  where
    no_more : (b : Bool) → (b && false) ≡ false
    no_more true = refl
    no_more false = refl
