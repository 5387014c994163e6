-- One AND line.
use Prim.Native.Nat.{ℕ, ◌+◌, ◌/◌, ◌≤◌, ◌<◌}
use mathlib.Core.Path.{◌≡◌, refl, sym, ap, ◌∙◌}
use mathlib.Core.Bool.{true, not, ◌&&◌}
use mathlib.Core.List.{List, [], ◌∷◌}
use mathlib.Core.Option.{Option, none, some}
use native.Mathlib.Omega.{arith}
use lib.Dec.{leb}
use lib.ListN.{length, get_or, set}
use borrow.Author.Tests.{leb-true}
use Rattle.netlist.specs.declared.Gate.{Gate}
use Rattle.netlist.specs.Lists.{member}
use Rattle.netlist.specs.Table.{Tables}
use Rattle.netlist.proofs.Tests.{both_true}
use Rattle.netlist.proofs.Questions.{none-some, some_same}
use Rattle.aiger.specs.File.{AndLine, literal, line_of, plain}
use Rattle.aiger.specs.Lines.{if_some, variable, and_line, and_form}
use Rattle.aiger.specs.Rules.{readable, fresh, can_give, and_good}
use Rattle.aiger.specs.Made.{wire_at, and_made}
use Rattle.from_aiger.specs.LineAnswers.{LineNot, at_front, first_numbers, LineAt}
use Rattle.from_aiger.specs.Places.{Standing, AndIs}
use Rattle.from_aiger.specs.AndAnswers.{AndLineAt}
use Rattle.aiger.proofs.Forms.{if_some-some}
use Rattle.aiger.proofs.Making.{located-more}
use Rattle.from_aiger.proofs.Placing.{places-more}
use Rattle.from_aiger.proofs.InputLines.{variable-plain, given-plain}

front-and : (ls : List (List (List ℕ))) → at_front and_form ls ≡ and_line (first_numbers ls)
front-and [] = refl
front-and (l ∷ ls) = refl

-- what the numbers of an AND line are
record Three (o : Option (List ℕ)) (a : AndLine) : Type 0 where
  x : ℕ
  y : ℕ
  z : ℕ
  v : ℕ
  are : o ≡ some (x ∷ y ∷ z ∷ [])
  var : variable (literal x) ≡ some v
  is : line_of v y z ≡ a

three : (o : Option (List ℕ)) (a : AndLine) → and_line o ≡ some a → Three o a
three none a e = absurd (none-some a e)
three (some []) a e = absurd (none-some a e)
three (some (x ∷ [])) a e = absurd (none-some a e)
three (some (x ∷ (y ∷ []))) a e = absurd (none-some a e)
three (some (x ∷ (y ∷ (z ∷ [])))) a e =
    let p = if_some-some (variable (literal x)) (λ v. some (line_of v y z)) a e in
    record { x = x; y = y; z = z; v = p.0; are = refl; var = p.1; is = some_same (line_of p.0 y z) a p.2 }
three (some (x ∷ (y ∷ (z ∷ (w ∷ ws))))) a e = absurd (none-some a e)

pub and_none : {ls : List (List (List ℕ))} (M : ℕ) (given : List ℕ) → LineNot ls 3 → (a : AndLine)
    → at_front and_form ls ≡ some a → and_good M given a ≡ true → ⊥
and_none {ls} M given n a e g = let T = three (first_numbers ls) a (sym (front-and ls) ∙ e)
    in n.none (T.x ∷ T.y ∷ T.z ∷ []) T.are refl

three-entries : (xs : List ℕ) → length xs ≡ 3 → xs ≡ get_or xs 0 0 ∷ get_or xs 1 0 ∷ get_or xs 2 0 ∷ []
three-entries [] e = absurd (omega arith)
three-entries (x ∷ []) e = absurd (omega arith)
three-entries (x ∷ (y ∷ [])) e = absurd (omega arith)
three-entries (x ∷ (y ∷ (z ∷ []))) e = refl
three-entries (x ∷ (y ∷ (z ∷ (w ∷ ws)))) e = absurd (omega arith)

module _ {ls left : List (List (List ℕ))} {xs : List ℕ} (L : LineAt ls 3 xs left) (M : ℕ) (given : List ℕ) where
  x : ℕ
  x = get_or xs 0 0

  y : ℕ
  y = get_or xs 1 0

  z : ℕ
  z = get_or xs 2 0

  line-three : first_numbers ls ≡ some (x ∷ y ∷ z ∷ [])
  unfolding x y z
  line-three = L.line ∙ ap some (three-entries xs L.size)

  -- an AND line that the rules admit has these three tests
  admitted : (a : AndLine) → at_front and_form ls ≡ some a → and_good M given a ≡ true
      → (readable given (literal y) ≡ true) × (readable given (literal z) ≡ true)
      × (can_give M given (literal x) ≡ true)
  admitted a e g =
      let q : and_line (some (x ∷ y ∷ z ∷ [])) ≡ some a = sym (ap and_line line-three) ∙ sym (front-and ls) ∙ e in
      let p = if_some-some (variable (literal x)) (λ v. some (line_of v y z)) a q in
      let s : line_of p.0 y z ≡ a = some_same (line_of p.0 y z) a p.2 in
      let h : and_good M given (line_of p.0 y z) ≡ true = ap (and_good M given) s ∙ g in
      let r = readable given (literal y) in
      let r' = readable given (literal z) in
      let k = both_true (r && r') (fresh M given p.0) h in
      let m = both_true r r' k.0 in
      (m.0, m.1, ap (can_give M given) (variable-plain (literal x) p.0 p.1) ∙ k.1)

  pub and_no : ((readable given (literal (get_or xs 1 0)) ≡ true) × (readable given (literal (get_or xs 2 0)) ≡ true)
      × (can_give M given (literal (get_or xs 0 0)) ≡ true) → ⊥)
      → (a : AndLine) → at_front and_form ls ≡ some a → and_good M given a ≡ true → ⊥
  unfolding x y z
  and_no bad a e g = bad (admitted a e g)

  pub and-on : {table after : List ℕ} {tabs u : Tables} {n count wire next : ℕ} {wires : List ℕ} {gs : List Gate}
      → M < length table → length wires ≡ M + 1
      → Standing table tabs n count given wires gs
      → readable given (literal (get_or xs 1 0)) ≡ true → readable given (literal (get_or xs 2 0)) ≡ true
      → can_give M given (literal (get_or xs 0 0)) ≡ true
      → AndIs table tabs u n count (get_or xs 1 0) (get_or xs 2 0) wire next → after ≡ set table (get_or xs 0 0 / 2)
      (wire + 1)
      → AndLineAt ls M n count given wires gs after u next left
  unfolding x y z
  and-on {table} {after} {tabs} {u} {n} {count} {wire} {next} {wires} {gs} long size S r s c I e =
      let v = x / 2 in
      let p : literal x ≡ plain v = given-plain M given x c in
      let f : fresh M given v ≡ true = sym (ap (can_give M given) p) ∙ c in
      let low : v ≤ M = leb-true v M (both_true (leb v M) (not (member v given)) f).0 in
      let N = and_made (wire_at wires) (line_of v y z) (n + count) in
      let a = I given wires gs S r s v in
      let A = a.1 in
      let k : wire + 1 ≡ N.wire + 1 = omega (arith, a.0) in
      let T' = A.standing in
      let m : N.wire < n + next = omega (arith, A.next) in
      record {
        is = line_of v y z;
        line = front-and ls ∙ ap and_line line-three ∙ ap (λ (o : Option ℕ). if_some o λ v. some (line_of v y z))
            (ap variable p);
        good = rw (r, s, f) refl;
        wire = A.next;
        standing = record {
          places = rw (e, k) (places-more v N.wire (omega arith) (omega arith) T'.places);
          located = located-more given wires v N.wire (omega arith) (omega arith) m T'.located;
          size = T'.size;
          keeps = T'.keeps;
        };
        next = L.next;
      }
