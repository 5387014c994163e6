-- Literals that a table keeps.
use Prim.Native.Nat.{ℕ, suc, ◌+◌, ◌/◌, ◌^◌, ◌<◌, ◌≤◌}
use mathlib.Core.Path.{◌≡◌, refl, sym, ap, ◌∙◌, subst}
use mathlib.Core.Bool.{Bool, true, false}
use mathlib.Core.List.{List, [], ◌∷◌, ◌++◌, map}
use mathlib.Core.Option.{some}
use native.Mathlib.Numerals.{add-one}
use native.Mathlib.Omega.{arith}
use borrow.Author.Count.{below_more}
use lib.ListN.{length, take, drop, get_or, set, length-set}
use lib.Seq.{take-suc, take-suc-set, take_all, split_at, get_or-set_same, get_or-set_other}
use Rattle.std.specs.Bool.{MatchBool}
use Rattle.std.specs.List.{AllWithin, HoldsAt}
use Rattle.netlist.specs.Lists.{every}
use Rattle.aiger.specs.File.{Literal, literal}
use Rattle.aiger.specs.Lines.{formed, output_line}
use Rattle.aiger.specs.Rules.{readable}
use Rattle.from_aiger.specs.LineAnswers.{LineNot, OneAt}
use Rattle.from_aiger.specs.Places.{Places}
use Rattle.from_aiger.proofs.Placing.{not_so}
use Rattle.from_aiger.specs.OutAnswers.{LiteralsAt, Low, HaveWires}
use Rattle.from_aiger.proofs.OutLines.{literals-more, literals-no, every-no}

map-join : (xs ys : List ℕ) → map literal (xs ++ ys) ≡ map literal xs ++ map literal ys
map-join [] ys = refl
map-join (x ∷ xs) ys = ap (λ (ls : List Literal). literal x ∷ ls) (map-join xs ys)

-- the literal after the first i
pub literal-more : (kept : List ℕ) (i : ℕ) → i < length kept → map literal (take (i + 1) kept)
    ≡ map literal (take i kept) ++ (literal (get_or kept i 0) ∷ [])
literal-more kept i h = ap (λ (k : ℕ). map literal (take k kept)) (add-one i) ∙ ap (map literal) (take-suc kept i 0 h)
    ∙ map-join (take i kept) _

-- and those after it
pub literal-split : (kept : List ℕ) (i : ℕ) → i < length kept
    → map literal kept ≡ map literal (take i kept) ++ (literal (get_or kept i 0) ∷ map literal (drop (suc i) kept))
literal-split kept i h = ap (map literal) (split_at kept i 0 h) ∙ map-join (take i kept) _

pub literals-whole : (kept : List ℕ) (i : ℕ) → length kept ≤ i → map literal (take i kept) ≡ map literal kept
literals-whole kept i h = ap (map literal) (take_all i kept h)

-- ---- read from lines: the first i lines are in the table
pub record Keeping (ls : List (List (List ℕ))) (kept : List ℕ) (i : ℕ) (left : List (List (List ℕ))) : Type 0 where
  pub lines : LiteralsAt ls i (map literal (take i kept)) left
  pub low : (j : ℕ) → j < i → get_or kept j 0 < 2 ^ 32
  pub inside : i ≤ length kept

module _ {ls left : List (List (List ℕ))} {kept : List ℕ} {i : ℕ} (K : Keeping ls kept i left) where
  pub keeping-more : {x : ℕ} {rest : List (List (List ℕ))} → i < length kept → x < 2 ^ 32 → OneAt left x rest
      → Keeping ls (set kept i x) (i + 1) rest
  keeping-more {x} {rest} h l O =
      let e : map literal (take i kept) ++ (literal x ∷ []) ≡ map literal (take (i + 1) (set kept i x)) =
      sym (ap (λ (k : ℕ). map literal (take k (set kept i x))) (add-one i) ∙ ap (map literal) (take-suc-set kept i x h)
      ∙ map-join (take i kept) _) in
      record {
        lines = subst (λ (as₁ : List Literal). LiteralsAt ls (i + 1) as₁ rest) e (literals-more K.lines O);
        low = below_more (λ (j : ℕ). get_or (set kept i x) j 0 < 2 ^ 32) i
            (λ j b. rw (get_or-set_other kept i j x 0 (omega arith)) (K.low j b))
            (rw (get_or-set_same kept i x 0 h) l);
        inside = simp length-set (omega (arith, h));
      }

  pub keeping-no : i < length kept → LineNot left 1 → (xs : List Literal) → formed output_line (length kept) ls
      ≡ some xs → ⊥
  keeping-no h n xs e = literals-no K.lines (length kept) h n xs e

  pub keeping_all : length kept ≤ i → LiteralsAt ls (length kept) (map literal kept) left × Low kept
  keeping_all h =
      let e : i ≡ length kept = omega (arith, K.inside) in (
        subst (λ (k : ℕ). LiteralsAt ls k (map literal kept) left) e
            (subst (λ (as₁ : List Literal). LiteralsAt ls i as₁ left) (literals-whole kept i h) K.lines),
        λ j b. K.low j (omega arith),
      )

-- ---- read from the table

abbrev pub Good : List ℕ → ℕ → Type 0
Good table x = ((given wires : List ℕ) → Places table given wires → true ≡ readable given (literal x))
    × (2 ≤ x → 1 ≤ get_or table (x / 2) 0)

abbrev pub Bad : List ℕ → ℕ → Type 0
Bad table x = (given wires : List ℕ) → Places table given wires → false ≡ readable given (literal x)

good-every : (p : Literal → Bool) (xs : List ℕ) → ((k : ℕ) → k < length xs → true ≡ p (literal (get_or xs k 0))) → true
    ≡ every p (map literal xs)
good-every p [] h = refl
good-every p (x ∷ xs) h =
    let e : p (literal x) ≡ true = sym (h 0 (omega arith)) in
    rw e (good-every p xs (λ k l. h (suc k) (omega arith)))

pub all-readable : (table kept : List ℕ) (r : Bool)
    → MatchBool r (AllWithin (Good table) kept 0 (length kept))
    ((k : ℕ) × (k < length kept) × HoldsAt (Bad table) kept k)
    → ((given wires : List ℕ) → Places table given wires → r ≡ every (readable given) (map literal kept))
    × (r ≡ true → HaveWires table kept)
all-readable table kept true h = (
  λ given wires P. good-every (readable given) kept (λ k l. (h k 0 (omega arith) l).0 given wires P),
  λ e k l. (h k 0 (omega arith) l).1,
)
all-readable table kept false h = (
  λ given wires P. sym (ap (every (readable given)) (literal-split kept h.0 h.1)
      ∙ every-no (readable given) (map literal (take h.0 kept)) (literal (get_or kept h.0 0))
      (map literal (drop (suc h.0) kept)) (sym (h.2 0 given wires P))),
  λ e. not_so e,
)
