-- No choice goes below the floor, and the choice that is given is the first of the fewest.
use Prim.Native.Nat.{ℕ, suc, ◌+◌, ◌-◌, ◌*◌, ◌^◌, ◌≤◌, min}
use mathlib.Core.Path.{◌≡◌, refl, sym, ap, ap₂, ◌∙◌}
use mathlib.Core.List.{List, [], ◌∷◌, ◌++◌, map}
use native.Mathlib.Nat.{zero-add, mul_comm, mul_assoc, one-mul, pow-suc, min-le_right, min-eq_left, min-eq_right}
use native.Mathlib.Omega.{arith}
use lib.Dec.{T, leb}
use borrow.Author.Tests.{leb-true, leb-false}
use lib.ListN.{length, length-append, length-map}
use Rattle.netlist.specs.declared.Gate.{Gate}
use Rattle.netlist.specs.declared.Gate.TheVariants.{Xor, And, Inv, Eqw, Eq}
use Rattle.netlist.specs.Lists.{every}
use Rattle.netlist.specs.Netlist.{Netlist, input_bits}
use Rattle.netlist.specs.Eval.{bit}
use Rattle.netlist.proofs.Tests.{on_bool, pair}
use Rattle.masking.specs.GateCount.{and_gates}
use Rattle.fewest.specs.Choice.{Choice, is_free, input_ways, gate_ways, ways, product, choices, choice, Takes, Agree}
use Rattle.masking.specs.Changes.{mask_changes}
use Rattle.fewest.specs.Fewest.{changes_under, changes_at, given, floor, FirstLeast}
use Rattle.fewest.proofs.Digits.{number, product-positive, number-below, digits_number, digits-take}
use Rattle.fewest.proofs.Least.{first_least-is}
use Rattle.fewest.proofs.TwicesLaws.{twices-below}
use Rattle.fewest.proofs.Same.{codes_same, gates-same}

-- ---- the ways are one or more

input-positive : (es : List ℕ) (bs : List ℕ) → T (every (leb 1) bs) → T (every (leb 1) (map input_ways es ++ bs))
input-positive [] bs t = t
input-positive (e ∷ es) bs t =
    pair (leb 1 (input_ways e)) (every (leb 1) (map input_ways es ++ bs))
    (on_bool (is_free e) (λ z. rw z tt) (λ z. rw z tt)) (input-positive es bs t)

gate-positive : (gs : List Gate) → T (every (leb 1) (map gate_ways gs))
gate-positive [] = tt
gate-positive (Xor a b c ∷ gs) = gate-positive gs
gate-positive (And a b c ∷ gs) = gate-positive gs
gate-positive (Inv a c ∷ gs) = gate-positive gs
gate-positive (Eqw a c ∷ gs) = gate-positive gs
gate-positive (Eq v c ∷ gs) = gate-positive gs

pub ways-positive : (codes : List ℕ) (gs : List Gate) → T (every (leb 1) (ways codes gs))
ways-positive codes gs = input-positive codes (map gate_ways gs) (gate-positive gs)

pub length-ways : (codes : List ℕ) (gs : List Gate) → length (ways codes gs) ≡ length codes + length gs
length-ways codes gs = length-append (map input_ways codes) (map gate_ways gs)
    ∙ ap₂ (λ (a b : ℕ). a + b) (length-map codes input_ways) (length-map gs gate_ways)

-- there are 3 to the free inputs times 2 to the ANDs of them
abbrev pub frees : List ℕ → ℕ
frees [] = 0
frees (e ∷ es) = bit (is_free e) + frees es

gate-product : (gs : List Gate) → product (map gate_ways gs) ≡ 2 ^ and_gates gs
gate-product [] = refl
gate-product (Xor a b c ∷ gs) = one-mul (product (map gate_ways gs)) ∙ gate-product gs
    ∙ ap (λ (k : ℕ). 2 ^ k) (sym (zero-add (and_gates gs)))
gate-product (And a b c ∷ gs) = let h = gate-product gs in let e : 2 ^ (1 + and_gates gs) ≡ 2 ^ and_gates gs * 2
    = ap (λ (k : ℕ). 2 ^ k) (omega arith) ∙ pow-suc 2
    (and_gates gs) in omega arith
gate-product (Inv a c ∷ gs) = one-mul (product (map gate_ways gs)) ∙ gate-product gs
    ∙ ap (λ (k : ℕ). 2 ^ k) (sym (zero-add (and_gates gs)))
gate-product (Eqw a c ∷ gs) = one-mul (product (map gate_ways gs)) ∙ gate-product gs
    ∙ ap (λ (k : ℕ). 2 ^ k) (sym (zero-add (and_gates gs)))
gate-product (Eq v c ∷ gs) = one-mul (product (map gate_ways gs)) ∙ gate-product gs
    ∙ ap (λ (k : ℕ). 2 ^ k) (sym (zero-add (and_gates gs)))

pub choices-count : (codes : List ℕ) (gs : List Gate) → product (ways codes gs) ≡ 3 ^ frees codes * 2 ^ and_gates gs
choices-count [] gs = gate-product gs ∙ sym (one-mul (2 ^ and_gates gs))
choices-count (e ∷ es) gs =
    let h = choices-count es gs in
    on_bool (is_free e)
    (λ z. let p : 3 ^ (1 + frees es) ≡ 3 ^ frees es * 3 = ap (λ (k : ℕ). 3 ^ k) (omega arith) ∙ pow-suc 3 (frees es) in
    rw (z, p, h) (mul_comm 3 (3 ^ frees es * 2 ^ and_gates gs) ∙ mul_assoc (3 ^ frees es) (2 ^ and_gates gs) 3
    ∙ ap (λ (k : ℕ). 3 ^ frees es * k) (mul_comm (2 ^ and_gates gs) 3)
    ∙ sym (mul_assoc (3 ^ frees es) 3 (2 ^ and_gates gs))))
    (λ z. rw z (one-mul (product (ways es gs)) ∙ h ∙ ap (λ (k : ℕ). 3 ^ k * 2 ^ and_gates gs)
    (sym (zero-add (frees es)))))

-- ---- every choice has a number

module _ (N : Netlist) (codes wanted : List ℕ) (l : length codes ≡ input_bits N) where
  -- choices that agree in all places have the same changes
  pub changes-same : (d f : Choice) → Agree (length (ways codes N.gates)) d f → changes_under N codes wanted d
      ≡ changes_under N codes wanted f
  changes-same d f h =
      let k = length-ways codes N.gates in
      ap₂ (λ (gs : List Gate) (es : List ℕ). mask_changes (record {
        wires = N.wires;
        inputs = N.inputs;
        outputs
            = N.outputs;
        gates = gs;
      }) es wanted)
      (gates-same d f (input_bits N) N.gates (λ p a b. h p (omega arith)))
      (codes_same d f 0 codes (λ p b. h p (omega arith)))

  pub changes-number : (d : Choice) → Takes (ways codes N.gates) d
      → changes_at N codes wanted (number (ways codes N.gates) d) ≡ changes_under N codes wanted d
  changes-number d t = changes-same (choice N codes (number (ways codes N.gates) d)) d
      (digits_number (ways codes N.gates) d t)

  -- ---- the choice that is given, with a budget of one or more

  module _ (budget : ℕ) (b : 1 ≤ budget) where
    some-tried : 1 ≤ min budget (choices N codes)
    some-tried = on_bool (leb budget (choices N codes))
        (λ e. rw (min-eq_left (leb-true budget (choices N codes) e)) b)
        (λ e. let h : choices N codes ≤ budget = let g = leb-false budget (choices N codes) e in omega arith in
        rw (min-eq_right h) (product-positive (ways codes N.gates) (ways-positive codes N.gates)))

    -- it is the first of the fewest of those tried
    pub given-first : FirstLeast (changes_at N codes wanted) (min budget (choices N codes))
        (given N codes wanted budget)
    given-first =
        let h = some-tried in
        let e : suc (min budget (choices N codes) - 1) ≡ min budget (choices N codes) = omega arith in
        rw e at (first_least-is (changes_at N codes wanted) (min budget (choices N codes) - 1))

    -- it is a choice
    pub given-takes : Takes (ways codes N.gates) (choice N codes (given N codes wanted budget))
    given-takes =
        let h = given-first.below in
        let m = min-le_right budget (choices N codes) in
        digits-take (ways codes N.gates) (ways-positive codes N.gates) (given N codes wanted budget) (omega arith)

    -- no choice goes below the floor
    pub above_floor : (d : Choice) → Takes (ways codes N.gates) d → floor N codes wanted budget ≤ changes_under N codes
        wanted d
    above_floor d t =
        on_bool (leb (choices N codes) budget)
        (λ e. rw e (let m = min-eq_right (leb-true (choices N codes) budget e) in
        let below = number-below (ways codes N.gates) d t in
        rw (changes-number d t) at (given-first.least (number (ways codes N.gates) d) (rw m below))))
        (λ e. rw e (twices-below N codes wanted d))

    -- so the distance from the best is at most the difference
    pub distance : (d : Choice) → Takes (ways codes N.gates) d
        → changes_at N codes wanted (given N codes wanted budget) - changes_under N codes wanted d
        ≤ changes_at N codes wanted (given N codes wanted budget) - floor N codes wanted budget
    distance d t = let h = above_floor d t in omega arith
