-- AND lines, one after another.
use Prim.Native.Nat.{ℕ, ◌+◌, ◌<◌}
use mathlib.Core.Path.{◌≡◌, refl, sym, ap, ◌∙◌}
use mathlib.Core.Bool.{Bool, true, ◌&&◌}
use mathlib.Core.List.{List, [], ◌∷◌, ◌++◌, map, append_assoc, append-nil}
use mathlib.Core.Option.{some}
use lib.ListN.{length, drop, set, length-set}
use lib.Seq.{drop-drop}
use Rattle.netlist.specs.declared.Gate.{Gate}
use Rattle.netlist.specs.Table.{Tables}
use Rattle.netlist.proofs.Tests.{both_true}
use Rattle.netlist.proofs.Questions.{some_same}
use Rattle.aiger.specs.File.{AndLine}
use Rattle.aiger.specs.Lines.{formed, and_form}
use Rattle.aiger.specs.Rules.{giving, and_good, ands_good}
use Rattle.aiger.specs.Made.{wire_at, and_made, Built, following, build}
use Rattle.from_aiger.specs.LineAnswers.{at_front}
use Rattle.from_aiger.specs.Places.{Standing}
use Rattle.from_aiger.specs.AndAnswers.{AndLineAt, AndsAt}
use Rattle.from_aiger.proofs.LineByLine.{formed-snoc, Split, formed-split}

-- one line more after what is built
abbrev onward : Built → AndLine → Built
onward B a =
    let M = and_made (wire_at B.table) a B.next in
    record { gates = B.gates ++ M.gates; table = set B.table a.left M.wire; next = M.next }

following-onward : (gs : List Gate) (B : Built) (a : AndLine) → following gs (onward B a) ≡ onward (following gs B) a
following-onward gs B a =
    let M = and_made (wire_at B.table) a B.next in
    let e : gs ++ (B.gates ++ M.gates) ≡ (gs ++ B.gates) ++ M.gates = sym (append_assoc gs B.gates M.gates) in
    λ i. record { gates = e i; table = set B.table a.left M.wire; next = M.next }

build-snoc : (table : List ℕ) (c : ℕ) (xs : List AndLine) (a : AndLine) → build table c (xs ++ (a ∷ []))
    ≡ onward (build table c xs) a
build-snoc table c [] a =
    let M = and_made (wire_at table) a c in
    λ i. record { gates = append-nil M.gates i; table = set table a.left M.wire; next = M.next }
build-snoc table c (x ∷ xs) a =
    let M = and_made (wire_at table) x c in
    ap (following M.gates) (build-snoc (set table x.left M.wire) M.next xs a)
    ∙ following-onward M.gates (build (set table x.left M.wire) M.next xs) a

length-build : (table : List ℕ) (c : ℕ) (xs : List AndLine) → length (build table c xs).table ≡ length table
length-build table c [] = refl
length-build table c (x ∷ xs) =
    let M = and_made (wire_at table) x c in length-build (set table x.left M.wire) M.next xs
    ∙ length-set table x.left M.wire

abbrev given-after : List ℕ → List AndLine → List ℕ
given-after given xs = giving given (map (λ a. a.left) xs)

after-snoc : (given : List ℕ) (xs : List AndLine) (a : AndLine) → given-after given (xs ++ (a ∷ []))
    ≡ a.left ∷ given-after given xs
after-snoc given [] a = refl
after-snoc given (x ∷ xs) a = after-snoc (x.left ∷ given) xs a

good-snoc : (M : ℕ) (given : List ℕ) (xs : List AndLine) (a : AndLine) → ands_good M given xs ≡ true
    → and_good M (given-after given xs) a ≡ true
    → ands_good M given (xs ++ (a ∷ [])) ≡ true
good-snoc M given [] a e h = ap (λ (b : Bool). b && true) h
good-snoc M given (x ∷ xs) a e h =
    let p = both_true (and_good M given x) (ands_good M (x.left ∷ given) xs) e in
    ap (λ (b : Bool). b && ands_good M (x.left ∷ given) (xs ++ (a ∷ []))) p.0 ∙ good-snoc M (x.left ∷ given) xs a p.1 h

good-at : (M : ℕ) (given : List ℕ) (xs : List AndLine) (a : AndLine) (rest : List AndLine)
    → ands_good M given (xs ++ (a ∷ rest)) ≡ true
    → and_good M (given-after given xs) a ≡ true
good-at M given [] a rest e = (both_true (and_good M given a) (ands_good M (a.left ∷ given) rest) e).0
good-at M given (x ∷ xs) a rest e = good-at M (x.left ∷ given) xs a rest (both_true (and_good M given x) _ e).1

-- ---- the loop

-- whatever is given before, the first i lines are AND lines, and the tables hold what is built of them
abbrev pub Building : List (List (List ℕ)) → ℕ → ℕ → List ℕ → Tables → List ℕ → Tables → List (List (List ℕ)) → ℕ → ℕ
    → Type 0
Building ls M n table₀ tabs₀ table tabs left count i = (given wires : List ℕ) → length wires ≡ M + 1
    → Standing table₀ tabs₀ n 0 given wires []
    → AndsAt ls i M n given wires table tabs count left

module _ {ls left : List (List (List ℕ))} {M n : ℕ} {table₀ table : List ℕ} {tabs₀ tabs : Tables} {count i : ℕ}
    (B : Building ls M n table₀ tabs₀ table tabs left count i) where
  pub building-more : {after : List ℕ} {u : Tables} {next : ℕ} {rest : List (List (List ℕ))}
      → ((given wires : List ℕ) (gs : List Gate) → length wires ≡ M + 1 → Standing table tabs n count given wires gs
      → AndLineAt left M n
      count given wires gs after u next rest)
      → Building ls M n table₀ tabs₀ after u rest next (i + 1)
  building-more {after} {u} {next} {rest} line given wires l S =
      let A = B given wires l S in
      let C = build wires n A.are in
      let I = line (given-after given A.are) C.table C.gates (length-build wires n A.are ∙ l) A.standing in
      let a = I.is in
      let w : n + count ≡ C.next = A.wire in
      let s : build wires n (A.are ++ (a ∷ [])) ≡ onward C a = build-snoc wires n A.are a in
      let g : given-after given (A.are ++ (a ∷ [])) ≡ a.left ∷ given-after given A.are = after-snoc given A.are a in
      record {
        are = A.are ++ (a ∷ []);
        form = formed-snoc and_form i ls A.are a A.form (ap (at_front and_form) (sym A.next) ∙ I.line);
        good = good-snoc M given A.are a A.good I.good;
        wire = rw s (rw w at I.wire);
        standing = rw (s, g) (rw w at I.standing);
        next = I.next ∙ ap (drop 1) A.next ∙ drop-drop 1 i ls;
      }

  pub building-no : (lines : ℕ) → i < lines
      → ((given wires : List ℕ) (gs : List Gate) → length wires ≡ M + 1 → Standing table tabs n count given wires gs
      → (a : AndLine) → at_front and_form
      left ≡ some a → and_good M given a ≡ true → ⊥)
      → (given wires : List ℕ) → length wires ≡ M + 1 → Standing table₀ tabs₀ n 0 given wires [] → (xs : List AndLine)
      → formed and_form lines ls ≡ some xs →
      ands_good M given xs ≡ true → ⊥
  building-no lines h bad given wires l S xs e f =
      let A = B given wires l S in
      let C = build wires n A.are in
      let P : Split and_form i ls xs = formed-split and_form i lines ls xs h e in
      let s : P.front ≡ A.are = some_same P.front A.are (sym P.seen ∙ A.form) in
      let k : ands_good M given (P.front ++ (P.here ∷ P.rest)) ≡ true = ap (ands_good M given) P.all ∙ f in
      bad (given-after given A.are) C.table C.gates (length-build wires n A.are ∙ l) A.standing P.here
      (ap (at_front and_form) A.next ∙ P.line)
      (ap (λ (us : List AndLine). and_good M (given-after given us) P.here) (sym s) ∙ good-at M given P.front P.here
      P.rest k)
