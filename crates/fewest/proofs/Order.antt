-- From one choice to the next: the last place that has a further way takes it, and the places after it take their
-- first.
use Prim.Native.Nat.{ℕ, zero, suc, ◌+◌, ◌*◌, ◌/◌, ◌%◌, ◌≤◌, ◌<◌}
use mathlib.Core.Path.{◌≡◌, refl, sym, ap, ap₂, ◌∙◌}
use mathlib.Core.Bool.{cond}
use mathlib.Core.List.{List, [], ◌∷◌}
use native.Mathlib.Nat.{mod-lt, mod-eq_of_lt, div-eq_of_lt, div-add-mod', mul-add-div_right, mul-add-mod_self_right}
use native.Mathlib.Nat.{suc-mul}
use native.Mathlib.Omega.{arith}
use lib.Dec.{T, leb, ltb, eqb, leb-suc-suc, eqb-suc-suc}
use borrow.Author.Tests.{ltb-true, ltb-false, lt-ltb, le-ltb, eqb-true, eqb-false, eq-eqb, ne_eqb}
use lib.ListN.{length, get_or, drop}
use Rattle.netlist.specs.Lists.{every}
use Rattle.netlist.proofs.Tests.{both, on_bool}
use Rattle.fewest.specs.Choice.{Choice, product, digits, Takes, Agree}
use Rattle.fewest.specs.Codes.{moved}
use Rattle.fewest.proofs.Digits.{following, number, product-positive, number-below, carried, digits-take, digits_number}

-- ---- the choice moved at p, place by place

pub moved_before : (d : Choice) (p : ℕ) → Agree p d (moved d p)
moved_before d p q h = sym (rw (lt-ltb q p h) refl)

pub moved_at : (d : Choice) (p : ℕ) → moved d p p ≡ suc (d p)
moved_at d p = rw (le-ltb p p (omega arith), eq-eqb p p refl) refl

pub moved-following : (d : Choice) (p q : ℕ) → p < q → moved d p q ≡ 0
moved-following d p q h = rw (le-ltb q p (omega arith), ne_eqb q p (λ e. omega arith)) refl

moved-suc : (d : Choice) (p q : ℕ) → moved d (suc p) (suc q) ≡ moved (following d) p q
moved-suc d p q = rw (leb-suc-suc (suc q) p, eqb-suc-suc q p) refl

pub moved_same : (d e : Choice) (p q : ℕ) → d p ≡ e p → d q ≡ e q → moved d p q ≡ moved e p q
moved_same d e p q a b = ap₂ (λ (x y : ℕ). cond (ltb q p) x (cond (eqb q p) (suc y) 0)) b a

-- ---- numbers

pub number_same : (bs : List ℕ) (d f : Choice) → Agree (length bs) d f → number bs d ≡ number bs f
number_same [] d f h = refl
number_same (b ∷ bs) d f h =
    ap₂ (λ (x r : ℕ). x * product bs + r) (h 0 (omega arith))
    (number_same bs (following d) (following f) (λ p l. h (suc p) (omega arith)))

number-zero : (bs : List ℕ) → number bs (λ p. 0) ≡ 0
number-zero [] = refl
number-zero (b ∷ bs) = let h = number-zero bs in omega arith

pub number_digits : (bs : List ℕ) → T (every (leb 1) bs) → (j : ℕ) → j < product bs
    → number bs (λ p. get_or (digits bs j) p 0) ≡ j
number_digits [] t j h = omega arith
number_digits (b ∷ bs) t j h =
    let s = both (leb 1 b) (every (leb 1) bs) t in
    ap (λ (r : ℕ). j / product bs * product bs + r) (number_digits bs s.1 (j % product bs)
    (mod-lt j (product-positive bs s.1)))
    ∙ div-add-mod' j (product bs)

-- ---- choices that share their first places: those from one on that takes the first way in all places after

-- every place before P takes its last way: the choices that share them are the last
pub number-last : (bs : List ℕ) (d : Choice) (P : ℕ) → P ≤ length bs → ((q : ℕ) → q < P → suc (d q) ≡ get_or bs q 0)
    → ((q : ℕ) → P ≤ q → q < length bs → d q ≡ 0) → number bs d + product (drop P bs) ≡ product bs
number-last bs d zero l h z =
    let e = number_same bs d (λ p. 0) (λ q k. z q (omega arith) k) ∙ number-zero bs in
    omega arith
number-last [] d (suc P) l h z = absurd (omega arith)
number-last (b ∷ bs) d (suc P) l h z =
    let r = number-last bs (following d) P (omega arith) (λ q k. h (suc q) (omega arith))
    (λ q k m. z (suc q) (omega arith) (omega arith)) in
    let e : suc (d 0) * product bs ≡ b * product bs = ap (λ (x : ℕ). x * product bs) (h 0 (omega arith)) in
    omega (arith, suc-mul (d 0) (product bs))

-- every place between p and P takes its last way: after the choices that share the places before P comes the choice
-- moved at p
pub number-moved : (bs : List ℕ) (d : Choice) (p P : ℕ) → p < P → P ≤ length bs
    → ((q : ℕ) → p < q → q < P → suc (d q) ≡ get_or bs q 0)
    → ((q : ℕ) → P ≤ q → q < length bs → d q ≡ 0) → number bs (moved d p) ≡ number bs d + product (drop P bs)
number-moved bs d p zero k l h z = absurd (omega arith)
number-moved [] d p (suc P) k l h z = absurd (omega arith)
number-moved (b ∷ bs) d zero (suc P) k l h z =
    let r = number-last bs (following d) P (omega arith) (λ q k. h (suc q) (omega arith) (omega arith))
    (λ q k m. z (suc q) (omega arith) (omega arith)) in
    let e = number_same bs (following (moved d 0)) (λ p. 0) (λ q k. moved-following d 0 (suc q) (omega arith))
    ∙ number-zero bs in
    ap₂ (λ (x r : ℕ). x * product bs + r) (moved_at d 0) e ∙ omega (arith, suc-mul (d 0) (product bs))
number-moved (b ∷ bs) d (suc p) (suc P) k l h z =
    let r = number-moved bs (following d) p P (omega arith) (omega arith)
    (λ q k m. h (suc q) (omega arith) (omega arith))
    (λ q k m. z (suc q) (omega arith) (omega arith)) in
    let s = number_same bs (following (moved d (suc p))) (moved (following d) p) (λ q k. moved-suc d p q) in
    ap₂ (λ (x r : ℕ). x * product bs + r) (sym (moved_before d (suc p) 0 (omega arith))) (s ∙ r) ∙ omega arith

moved-takes : (bs : List ℕ) → T (every (leb 1) bs) → (d : Choice) (p : ℕ) → Takes bs d → suc (d p) < get_or bs p 0
    → Takes bs (moved d p)
moved-takes bs t d p h m q l =
    on_bool (ltb q p) (λ e. rw (sym (moved_before d p q (ltb-true q p e))) (h q l))
    (λ e. on_bool (eqb q p)
    (λ f. rw (eqb-true q p f, moved_at d p) m)
    (λ f. let n : q ≡ p → ⊥ = eqb-false q p f in
    let g : p ≤ q = ltb-false q p e in
    let k = h q l in
    rw (moved-following d p q (omega arith)) (omega arith)))

-- ---- choice number j, those that share its places before P, and the next

module _ (bs : List ℕ) (t : T (every (leb 1) bs)) (j : ℕ) (h : j < product bs) (P : ℕ) (l : P ≤ length bs)
    (z : (q : ℕ) → P ≤ q → q < length bs → get_or (digits bs j) q 0 ≡ 0) where
  abbrev now : Choice
  now p = get_or (digits bs j) p 0

  -- the place that moves has a further way, and none between it and P has
  module _ (p : ℕ) (k : p < P) (m : suc (get_or (digits bs j) p 0) < get_or bs p 0)
      (o : (q : ℕ) → p < q → q < P → suc (get_or (digits bs j) q 0) ≡ get_or bs q 0) where
    next-number : number bs (moved now p) ≡ j + product (drop P bs)
    next-number = number-moved bs now p P k l o z ∙ ap (λ (i : ℕ). i + product (drop P bs)) (number_digits bs t j h)

    pub digits-next : Agree (length bs) (λ q. get_or (digits bs (j + product (drop P bs))) q 0) (moved now p)
    digits-next q b =
        ap (λ (i : ℕ). get_or (digits bs i) q 0) (sym next-number)
        ∙ digits_number bs (moved now p) (moved-takes bs t now p (digits-take bs t j h) m) q b

    pub next-below : j + product (drop P bs) < product bs
    next-below =
        let e = next-number in
        let b = number-below bs (moved now p) (moved-takes bs t now p (digits-take bs t j h) m) in
        omega arith

  -- no place has a further way: all choices were passed
  pub digits-end : ((q : ℕ) → q < P → suc (now q) ≡ get_or bs q 0) → j + product (drop P bs) ≡ product bs
  digits-end k = ap (λ (i : ℕ). i + product (drop P bs)) (sym (number_digits bs t j h)) ∙ number-last bs now P l k z

-- ---- the choices that share the places up to p, as many as there are after p

pub shared-below : (bs : List ℕ) (d : Choice) (p i : ℕ) → Takes bs d → p < length bs
    → ((q : ℕ) → p < q → q < length bs → d q ≡ 0)
    → i < product (drop (suc p) bs) → number bs d + i < product bs
shared-below [] d p i t l z h = absurd (omega arith)
shared-below (b ∷ bs) d zero i t l z h =
    let e = number_same bs (following d) (λ p. 0) (λ q k. z (suc q) (omega arith) (omega arith)) ∙ number-zero bs in
    let c = carried (d 0) b i (product bs) (t 0 (omega arith)) h in
    omega arith
shared-below (b ∷ bs) d (suc p) i t l z h =
    let r = shared-below bs (following d) p i (λ q k. t (suc q) (omega arith)) (omega arith)
    (λ q k m. z (suc q) (omega arith) (omega arith)) h in
    let c = carried (d 0) b (number bs (following d) + i) (product bs) (t 0 (omega arith)) r in
    omega arith

pub digits-shared : (bs : List ℕ) (d : Choice) (p i : ℕ) → Takes bs d → p < length bs
    → ((q : ℕ) → p < q → q < length bs → d q ≡ 0)
    → i < product (drop (suc p) bs) → Agree (suc p) d (λ q. get_or (digits bs (number bs d + i)) q 0)
digits-shared [] d p i t l z h q k = absurd (omega arith)
digits-shared (b ∷ bs) d zero i t l z h q k =
    let e = number_same bs (following d) (λ p. 0) (λ q k. z (suc q) (omega arith) (omega arith)) ∙ number-zero bs in
    let s : number (b ∷ bs) d + i ≡ d 0 * product bs + i = omega arith in
    let q0 : q ≡ 0 = omega arith in
    rw (q0, s) (sym (mul-add-div_right (omega arith) (d 0) i ∙ omega (arith, div-eq_of_lt h)))
digits-shared (b ∷ bs) d (suc p) i t l z h zero k =
    let low = shared-below bs (following d) p i (λ q k. t (suc q) (omega arith)) (omega arith)
    (λ q k m. z (suc q) (omega arith) (omega arith)) h in
    let s : number (b ∷ bs) d + i ≡ d 0 * product bs + (number bs (following d) + i) = omega arith in
    rw s (sym (mul-add-div_right (omega arith) (d 0) (number bs (following d) + i) ∙ omega (arith, div-eq_of_lt low)))
digits-shared (b ∷ bs) d (suc p) i t l z h (suc q) k =
    let low = shared-below bs (following d) p i (λ q k. t (suc q) (omega arith)) (omega arith)
    (λ q k m. z (suc q) (omega arith) (omega arith)) h in
    let s : number (b ∷ bs) d + i ≡ d 0 * product bs + (number bs (following d) + i) = omega arith in
    rw (s, mul-add-mod_self_right (d 0) (product bs) (number bs (following d) + i), mod-eq_of_lt low)
    (digits-shared bs (following d) p i (λ q k. t (suc q) (omega arith)) (omega arith)
    (λ q k m. z (suc q) (omega arith) (omega arith)) h q (omega arith))

-- and what they take after p goes by their number among those
pub digits-following : (bs : List ℕ) (d : Choice) (p i : ℕ) → Takes bs d → p < length bs
    → ((q : ℕ) → p < q → q < length bs → d q ≡ 0)
    → i < product (drop (suc p) bs) → (q : ℕ) → get_or (digits bs (number bs d + i)) (suc (p + q)) 0
    ≡ get_or (digits (drop (suc p) bs) i) q 0
digits-following [] d p i t l z h q = absurd (omega arith)
digits-following (b ∷ bs) d zero i t l z h q =
    let e = number_same bs (following d) (λ p. 0) (λ q k. z (suc q) (omega arith) (omega arith)) ∙ number-zero bs in
    let s : number (b ∷ bs) d + i ≡ d 0 * product bs + i = omega arith in
    let q0 : 0 + q ≡ q = omega arith in
    rw (q0, s, mul-add-mod_self_right (d 0) (product bs) i, mod-eq_of_lt h) refl
digits-following (b ∷ bs) d (suc p) i t l z h q =
    let low = shared-below bs (following d) p i (λ q k. t (suc q) (omega arith)) (omega arith)
    (λ q k m. z (suc q) (omega arith) (omega arith)) h in
    let s : number (b ∷ bs) d + i ≡ d 0 * product bs + (number bs (following d) + i) = omega arith in
    let y : suc p + q ≡ suc (p + q) = omega arith in
    rw (y, s, mul-add-mod_self_right (d 0) (product bs) (number bs (following d) + i), mod-eq_of_lt low)
    (digits-following bs (following d) p i (λ q k. t (suc q) (omega arith)) (omega arith)
    (λ q k m. z (suc q) (omega arith) (omega arith)) h q)
