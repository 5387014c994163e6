-- What need not be tried. The outcome is the first of the fewest among the numbers tried, so choices that cost no less
-- than the best so far may be left out, as long as they are counted.
use Prim.Native.Nat.{ℕ, suc, ◌+◌, ◌-◌, ◌≤◌, ◌<◌}
use mathlib.Core.Path.{◌≡◌, refl, sym, ap, ◌∙◌}
use mathlib.Core.Bool.{cond}
use mathlib.Core.List.{List}
use native.Mathlib.Omega.{arith}
use lib.Dec.{eqb, ltb}
use borrow.Author.Tests.{eqb-true, eqb-false, eq-eqb, ne_eqb, ltb-true, ltb-false}
use lib.ListN.{length, get_or, drop}
use Rattle.netlist.specs.declared.Gate.{Gate}
use Rattle.netlist.specs.Netlist.{Netlist, input_bits}
use Rattle.netlist.specs.Read.{WellFormed}
use Rattle.netlist.proofs.Tests.{on_bool}
use Rattle.fewest.specs.Choice.{Choice, Takes, ways, product, choices, choice, Agree}
use Rattle.fewest.specs.Fewest.{FirstLeast, changes_at}
use Rattle.fewest.specs.Codes.{code_at, codes_before, least_before, moved}
use Rattle.fewest.proofs.Digits.{number, digits-take}
use Rattle.fewest.proofs.Least.{least_skip}
use Rattle.fewest.proofs.Floor.{ways-positive}
use Rattle.fewest.proofs.Retried.{Idle, before_same, up-to-least, idle-swap}
use Rattle.fewest.proofs.Order.{moved_before, moved_at, moved-following, number_same, number-moved, number_digits}
use Rattle.fewest.proofs.Order.{digits-shared, digits-following}

-- ---- a place one way back

abbrev lowered : Choice → ℕ → Choice
lowered d p q = cond (eqb q p) (d p - 1) (d q)

lowered-at : (d : Choice) (p : ℕ) → lowered d p p ≡ d p - 1
lowered-at d p = rw (eq-eqb p p refl) refl

lowered-other : (d : Choice) (p q : ℕ) → (q ≡ p → ⊥) → lowered d p q ≡ d q
lowered-other d p q h = rw (ne_eqb q p h) refl

lowered-takes : (bs : List ℕ) (d : Choice) (p : ℕ) → Takes bs d → Takes bs (lowered d p)
lowered-takes bs d p t q h =
    let b = t q h in
    on_bool (eqb q p) (λ e. let z = eqb-true q p e in rw (z, lowered-at d p) (let y : d q ≡ d p = ap d z in
    let x : get_or bs q 0 ≡ get_or bs p 0 = ap (λ (k : ℕ). get_or bs k 0) z in omega arith))
    (λ e. rw (lowered-other d p q (eqb-false q p e)) b)

-- the choice itself is the one moved from there
lowered-moved : (d : Choice) (p k : ℕ) → 1 ≤ d p → ((q : ℕ) → p < q → q < k → d q ≡ 0) → Agree k (moved (lowered d p) p)
    d
lowered-moved d p k h z q b =
    on_bool (ltb q p)
    (λ e. let l = ltb-true q p e in sym (moved_before (lowered d p) p q l) ∙ lowered-other d p q (λ y. omega arith))
    (λ e. let l = ltb-false q p e in
    on_bool (eqb q p)
    (λ f. let y = eqb-true q p f in rw y (moved_at (lowered d p) p ∙ ap suc (lowered-at d p) ∙ omega arith))
    (λ f. let n : q ≡ p → ⊥ = eqb-false q p f in moved-following (lowered d p) p q (omega arith)
    ∙ sym (z q (omega arith) b)))

module _ {N : Netlist} (F : WellFormed N) (codes : List ℕ) (l : length codes ≡ input_bits N) (wanted : List ℕ) where
  abbrev bs : List ℕ
  bs = ways codes N.gates

  abbrev changes : ℕ → ℕ
  changes j = changes_at N codes wanted j

  -- choice j begins those that share its places up to p
  module _ {j b : ℕ} (L : FirstLeast (changes_at N codes wanted) j b) (h : j < choices N codes) (p : ℕ)
      (m : p < length (ways codes N.gates))
      (z : (q : ℕ) → p < q → q < length (ways codes N.gates) → choice N codes j q ≡ 0) where
    abbrev d : Choice
    d = choice N codes j

    takes : Takes bs (choice N codes j)
    takes = digits-take bs (ways-positive codes N.gates) j h

    its-number : number bs (choice N codes j) ≡ j
    its-number = number_digits bs (ways-positive codes N.gates) j h

    shares : (i : ℕ) → i < product (drop (suc p) bs) → Agree (suc p) (choice N codes j) (choice N codes (j + i))
    shares i r q o = digits-shared bs d p i takes m z r q o ∙ ap (λ (x : ℕ). choice N codes (x + i) q) its-number

    -- where the changes up to gate i and the gates from there on that name one wire twice are not fewer than the best,
    -- all of them are left out
    pub cut : (i : ℕ) → i ≤ length N.gates → input_bits N + i ≤ suc p → changes_at N codes wanted b ≤ least_before N
        codes (choice N codes j) i
        → FirstLeast (changes_at N codes wanted) (j + product (drop (suc p) (ways codes N.gates))) b
    cut i k o c =
        least_skip (product (drop (suc p) bs)) L (λ x a r.
        let e : j + (x - j) ≡ x = omega arith in
        let g = shares (x - j) (omega arith) in
        let u = up-to-least F codes l wanted d (choice N codes (j + (x - j))) i k (λ q y. g q (omega arith)) in
        let w : changes b ≤ changes (j + (x - j)) = omega arith in
        rw e at w)

    -- where place p is an AND's that has moved, and its operands have equal codes, each of them costs what the same
    -- choice with that AND as written cost
    pub idle : (i : ℕ) (g : Gate) → i < length N.gates → p ≡ input_bits N + i → 1 ≤ choice N codes j p
        → Idle (code_at (codes_before N codes (choice N codes j) i)) (get_or N.gates i g)
        → FirstLeast (changes_at N codes wanted) (j + product (drop (suc p) (ways codes N.gates))) b
    idle i g k e one same =
        let S = product (drop (suc p) bs) in
        let d⁰ = lowered d p in
        let j⁰ = number bs d⁰ in
        let z⁰ : (q : ℕ) → p < q → q < length bs → d⁰ q ≡ 0 = λ q a c. lowered-other d p q (λ y. omega arith)
        ∙ z q a c in
        let up : j ≡ j⁰ + S =
        sym its-number ∙ sym (number_same bs (moved d⁰ p) d (lowered-moved d p (length bs) one z))
        ∙ number-moved bs d⁰ p (suc p) (omega arith) (omega arith) (λ q a c. absurd (omega arith))
        (λ q a c. z⁰ q (omega arith) c) in
        least_skip S L (λ x a r.
        let t = x - j in
        let e₁ : j + t ≡ x = omega arith in
        let share = shares t (omega arith) in
        let share⁰ = digits-shared bs d⁰ p t (lowered-takes bs d p takes) m z⁰ (omega arith) in
        let rest = digits-following bs d p t takes m z (omega arith) in
        let rest⁰ = digits-following bs d⁰ p t (lowered-takes bs d p takes) m z⁰ (omega arith) in
        let agree : (q : ℕ) → (q ≡ input_bits N + i → ⊥) → choice N codes (j + t) q ≡ choice N codes (j⁰ + t) q
        = λ q ne.
        on_bool (ltb q p)
        (λ f. let lt = ltb-true q p f in sym (share q (omega arith)) ∙ sym (lowered-other d p q (λ y. omega arith))
        ∙ share⁰ q (omega arith))
        (λ f. let ge = ltb-false q p f in
        let q' : q ≡ suc (p + (q - suc p)) = omega arith in
        ap (choice N codes (j + t)) q' ∙ ap (λ (y : ℕ). choice N codes (y + t) (suc (p + (q - suc p)))) (sym its-number)
        ∙ rest (q - suc p)
        ∙ sym (rest⁰ (q - suc p)) ∙ ap (choice N codes (j⁰ + t)) (sym q')) in
        let B = before_same F codes l d (choice N codes (j + t)) i (omega arith) (λ q y. share q (omega arith)) in
        let same' : Idle (code_at (codes_before N codes (choice N codes (j + t)) i)) (get_or N.gates i g)
        = rw B.0 at same in
        let swap = idle-swap F codes l wanted (choice N codes (j + t)) (choice N codes (j⁰ + t)) i g k agree same' in
        let old = L.least (j⁰ + t) (omega arith) in
        let w : changes b ≤ changes (j + t) = omega arith in
        rw e₁ at w)
