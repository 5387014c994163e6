-- The input lines, one after another.
use Prim.Native.Nat.{ℕ, zero, suc, ◌+◌, ◌/◌, ◌%◌, ◌<◌}
use mathlib.Core.Path.{◌≡◌, refl, sym, ap, ◌∙◌}
use mathlib.Core.Bool.{true}
use mathlib.Core.List.{List, [], ◌∷◌, ◌++◌}
use mathlib.Core.Option.{Option, none, some}
use native.Mathlib.Omega.{arith}
use lib.Dec.{eqb, ltb}
use lib.Seq.{drop-drop}
use lib.ListN.{length, drop, get_or, set, replicate, length-append, length-set, length-replicate}
use borrow.Author.Tests.{eqb-true, eqb-false, ltb-true, ltb-false}
use Rattle.netlist.proofs.Tests.{on_bool}
use Rattle.netlist.proofs.Questions.{none-some, some_same}
use Rattle.aiger.specs.File.{Literal, constant, plain, inverse, literal}
use Rattle.aiger.specs.Lines.{if_some, one_literal, variable, formed, input_line}
use Rattle.aiger.specs.Rules.{fresh, can_give, giving, fresh_all}
use Rattle.aiger.specs.Outputs.{enter}
use Rattle.aiger.specs.Made.{up_from}
use Rattle.from_aiger.specs.LineAnswers.{LineNot, at_front, first_numbers}
use Rattle.from_aiger.specs.Places.{Places}
use Rattle.from_aiger.specs.StepAnswers.{InputAt}
use Rattle.aiger.proofs.Making.{length-enter}
use Rattle.from_aiger.proofs.Placing.{not_so, literal-low, literal-even, literal-odd, places-more}
use Rattle.from_aiger.proofs.LineByLine.{formed-snoc, Split, formed-split, giving-snoc, fresh-snoc, fresh_at}
use Rattle.from_aiger.proofs.LineByLine.{enter-snoc}

-- ---- one line

front-input : (ls : List (List (List ℕ))) → at_front input_line ls ≡ if_some (one_literal (first_numbers ls)) variable
front-input [] = refl
front-input (l ∷ ls) = refl

one_number : (o : Option (List ℕ)) (v : ℕ) → if_some (one_literal o) variable ≡ some v → (x : ℕ) × (o ≡ some (x ∷ []))
    × (variable (literal x) ≡ some v)
one_number none v e = absurd (none-some v e)
one_number (some []) v e = absurd (none-some v e)
one_number (some (x ∷ [])) v e = (x, refl, e)
one_number (some (x ∷ (y ∷ ys))) v e = absurd (none-some v e)

pub variable-plain : (l : Literal) (v : ℕ) → variable l ≡ some v → l ≡ plain v
variable-plain (constant b) v e = absurd (none-some v e)
variable-plain (plain u) v e = ap plain (some_same u v e)
variable-plain (inverse u) v e = absurd (none-some v e)

-- a literal that can be given is a variable
pub given-plain : (M : ℕ) (given : List ℕ) (x : ℕ) → can_give M given (literal x) ≡ true → literal x ≡ plain (x / 2)
given-plain M given x e = on_bool (ltb x 2)
    (λ b. not_so (sym (ap (can_give M given) (literal-low x (ltb-true x 2 b))) ∙ e))
    (λ b. let h = ltb-false x 2 b in on_bool (eqb (x % 2) 0)
    (λ z. literal-even x h (eqb-true (x % 2) 0 z))
    (λ z. not_so (sym (ap (can_give M given) (literal-odd x h (eqb-false (x % 2) 0 z))) ∙ e)))

-- no line of one number
pub input_none : {ls : List (List (List ℕ))} (M : ℕ) (given : List ℕ) → LineNot ls 1
    → (v : ℕ) → at_front input_line ls ≡ some v → fresh M given v ≡ true → ⊥
input_none {ls} M given n v e f = let p = one_number (first_numbers ls) v (sym (front-input ls) ∙ e)
    in n.none (p.0 ∷ []) p.1 refl

-- ---- line by line

-- the first i lines are inputs, and the table has their wires
pub record Entering (ls : List (List (List ℕ))) (M size : ℕ) (table : List ℕ) (left : List (List (List ℕ))) (i : ℕ) :
    Type 0 where
  pub are : List ℕ
  pub count : length are ≡ i
  pub lines : formed input_line i ls ≡ some are
  pub new : fresh_all M [] are ≡ true
  pub places : Places table (giving [] are) (enter (replicate (M + 1) 0) are (up_from 0 i))
  pub next : left ≡ drop i ls
  pub long : length table ≡ size

-- a table of zeros, at any place
pub zeros-at : (k v : ℕ) → get_or {A = ℕ} (replicate k 0) v 0 ≡ 0
zeros-at zero v = refl
zeros-at (suc k) zero = refl
zeros-at (suc k) (suc v) = zeros-at k v

pub entering-start : (ls : List (List (List ℕ))) (M : ℕ) (table : List ℕ) → table ≡ replicate (length table) 0
    → Entering ls M (length table) table ls 0
entering-start ls M table z = record {
  are = [];
  count = refl;
  lines = refl;
  new = refl;
  places = record { each = λ v. ap (λ (x : List ℕ). get_or x v 0) z ∙ zeros-at (length table) v };
  next = refl;
  long = refl;
}

module _ {ls left : List (List (List ℕ))} {M size : ℕ} {table : List ℕ} {i : ℕ} (E : Entering ls M size table left i)
  where
    -- one line more
    pub entering-more : (after : List ℕ) (rest : List (List (List ℕ))) → M < size → InputAt left i M (giving [] E.are)
        table after rest
        → Entering ls M size after rest (i + 1)
    entering-more after rest m I =
        let v = I.is in
        let w = enter (replicate (M + 1) 0) E.are (up_from 0 i) in
        let l : length w ≡ M + 1 = length-enter (replicate (M + 1) 0) E.are (up_from 0 i)
        ∙ length-replicate (M + 1) 0 in
        let p : Places (set table v (i + 1)) (v ∷ giving [] E.are) (set w v i) =
        places-more v i (omega (arith, I.low, E.long)) (omega (arith, I.low)) E.places in
        let g : giving [] (E.are ++ (v ∷ [])) ≡ v ∷ giving [] E.are = giving-snoc [] E.are v in
        let z : 0 + i ≡ i = omega arith in
        let n : enter (replicate (M + 1) 0) (E.are ++ (v ∷ [])) (up_from 0 (i + 1)) ≡ set w v i =
        ap (λ (k : ℕ). enter (replicate (M + 1) 0) (E.are ++ (v ∷ [])) (up_from 0 (k + 1))) (sym E.count)
        ∙ enter-snoc (replicate (M + 1) 0) E.are v 0
        ∙ ap (λ (k : ℕ). set (enter (replicate (M + 1) 0) E.are (up_from 0 k)) v (0 + k)) E.count
        ∙ ap (set w v) z in
        record {
          are = E.are ++ (v ∷ []);
          count = length-append E.are (v ∷ []) ∙ omega (arith, E.count);
          lines = formed-snoc input_line i ls E.are v E.lines (ap (at_front input_line) (sym E.next) ∙ I.line);
          new = fresh-snoc M [] E.are v E.new I.new;
          places = rw (I.table, g, n) p;
          next = I.next ∙ ap (drop 1) E.next ∙ drop-drop 1 i ls;
          long = ap length I.table ∙ length-set table v (i + 1) ∙ E.long;
        }

    -- a line that is none
    pub entering-no : (count : ℕ) → i < count → ((v : ℕ) → at_front input_line left ≡ some v
        → fresh M (giving [] E.are) v
        ≡ true → ⊥)
        → (vs : List ℕ) → formed input_line count ls ≡ some vs → fresh_all M [] vs ≡ true → ⊥
    entering-no count h bad vs e f =
        let S : Split input_line i ls vs = formed-split input_line i count ls vs h e in
        let s : (S).front ≡ E.are = some_same (S).front E.are (sym (S).seen ∙ E.lines) in
        let a : fresh_all M [] ((S).front ++ ((S).here ∷ (S).rest)) ≡ true = ap (fresh_all M []) (S).all ∙ f in
        bad (S).here (ap (at_front input_line) E.next ∙ (S).line)
        (ap (λ (us : List ℕ). fresh M (giving [] us) (S).here) (sym s) ∙ fresh_at M [] (S).front
        (S).here (S).rest a)
