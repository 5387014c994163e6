-- Question 12: at most twelve inputs reach each wire and each listed pair.
use Prim.Native.Nat.{ℕ, zero, suc, ◌+◌, ◌*◌, ◌/◌, ◌≤◌, ◌<◌}
use mathlib.Core.Path.{◌≡◌, refl, sym, ap, ap₂, ◌∙◌, subst}
use mathlib.Core.Bool.{Bool, true, false}
use mathlib.Core.List.{List, [], ◌∷◌}
use mathlib.Core.Option.{Option}
use native.Mathlib.Omega.{arith}
use Rattle.std.specs.Bool.{MatchBool}
use Rattle.std.specs.List.{range_with_len, AllWithin, HoldsAt}
use Rattle.std.proofs.lemmas.List.FromFn.{length-range_with_len, get_or-range_with_len}
use lib.Dec.{T, leb→le}
use lib.ListN.{length, get_or, take}
use borrow.Author.Tests.{le-leb}
use Rattle.netlist.specs.Netlist.{Netlist}
use Rattle.netlist.specs.Outcome.{Outcome, refused, done, ask}
use Rattle.netlist.specs.Table.{Tables, Holds}
use Rattle.netlist.proofs.Tests.{clash, both, pair, is_true, true-T}
use Rattle.check_pairs.specs.Pairs.{all_below}
use Rattle.check_pairs.specs.Call.{BothAnswers}
use Rattle.check_pairs.proofs.PairCheck.{below_all, all-below}
use Rattle.check_wide.specs.Reach.{reaches, size, reach, reach_pair}
use Rattle.check_wide.specs.Sets.{merge, reach_set, pair_set}
use Rattle.check_wide.specs.Wide.{WideLeak, few, every_pair, few_reach, wide_answers}
use Rattle.check_wide.proofs.Merges.{merge-marks}
use Rattle.check_wide.proofs.Picked.{length-places}
use Rattle.check_wide.specs.Packed.{three_of, Sets, set_at, size_at, Sized}
use Rattle.check_wide.specs.Reached.{Reached}
use Rattle.check_wide.specs.Items.{pair_at, PairsFew}
use Rattle.check_wide.specs.Judging.{Given}

length-take-upto : (k : ℕ) (is : List ℕ) → length (take k is) ≤ k
length-take-upto zero is = omega arith
length-take-upto (suc k) [] = omega arith
length-take-upto (suc k) (x ∷ is) = let h = length-take-upto k is in omega arith

set-upto : (S : Sets) (w : ℕ) → length (set_at S w) ≤ size_at S w
set-upto S w = length-take-upto (size_at S w) (three_of (get_or S.set0 w 0) (three_of (get_or S.set1 w 0)
    (three_of (get_or S.set2 w 0) (three_of (get_or S.set3 w 0) []))))

-- a test of every two of a list, pair by pair
pub pair-every : (t : ℕ → ℕ → Bool) (ws : List ℕ) → T (every_pair t ws) → (j : ℕ) → j < length ws / 2
    → T (t (get_or ws (2 * j) 0) (get_or ws (2 * j + 1) 0))
pair-every t [] h j l = absurd (omega arith)
pair-every t (u ∷ []) h j l = absurd (omega arith)
pair-every t (u ∷ (v ∷ ws)) h zero l = (both (t u v) (every_pair t ws) h).0
pair-every t (u ∷ (v ∷ ws)) h (suc j) l =
    let e : 2 * suc j ≡ suc (suc (2 * j)) = omega arith in
    let d : 2 * suc j + 1 ≡ suc (suc (2 * j + 1)) = omega arith in
    subst (λ (a : ℕ). T (t (get_or (u ∷ (v ∷ ws)) a 0) (get_or (u ∷ (v ∷ ws)) (2 * suc j + 1) 0))) (sym e)
    (subst (λ (b : ℕ). T (t (get_or ws (2 * j) 0) (get_or (u ∷ (v ∷ ws)) b 0))) (sym d)
    (pair-every t ws (both (t u v) (every_pair t ws) h).1 j (omega arith)))

pub every-pair : (t : ℕ → ℕ → Bool) (ws : List ℕ) → ((j : ℕ) → j < length ws / 2
    → T (t (get_or ws (2 * j) 0) (get_or ws (2 * j + 1) 0))) → T (every_pair t ws)
every-pair t [] h = tt
every-pair t (u ∷ []) h = tt
every-pair t (u ∷ (v ∷ ws)) h = pair (t u v) (every_pair t ws) (h 0 (omega arith)) (every-pair t ws λ j l.
    let e : 2 * suc j ≡ suc (suc (2 * j)) = omega arith in
    let d : 2 * suc j + 1 ≡ suc (suc (2 * j + 1)) = omega arith in
    subst (λ (b : ℕ). T (t (get_or ws (2 * j) 0) (get_or (u ∷ (v ∷ ws)) b 0))) d
    (subst (λ (a : ℕ). T (t (get_or (u ∷ (v ∷ ws)) a 0) (get_or (u ∷ (v ∷ ws)) (2 * suc j + 1) 0))) e
    (h (suc j) (omega arith))))

module _ (N : Netlist) (n : ℕ) (ws : List ℕ) where
  abbrev wires : Bool
  wires = all_below (λ w. few (reach N n w)) N.wires

  abbrev pairs : Bool
  pairs = every_pair (λ u v. few (reach_pair N n u v)) ws

  wire-size : (w : ℕ) → length (reach_set N n w) ≡ size (reach N n w)
  wire-size w = length-places 0 (reach N n w)

  pair_size : (u v : ℕ) → length (pair_set N n u v) ≡ size (reach_pair N n u v)
  pair_size u v = ap length (merge-marks (λ i. reaches N i u) (λ i. reaches N i v) 0 n)
      ∙ length-places 0 (reach_pair N n u v)

  few-wires : T (few_reach N n ws) → (w : ℕ) → w < N.wires → length (reach_set N n w) ≤ 12
  few-wires h w l =
      let b = below_all (λ w. few (reach N n w)) N.wires (both wires pairs h).0 w l in
      let k = leb→le (size (reach N n w)) 12 b in
      let e = wire-size w in
      omega arith

  few-pairs : T (few_reach N n ws) → (j : ℕ) → j < length ws / 2
      → length (pair_set N n (get_or ws (2 * j) 0) (get_or ws (2 * j + 1) 0)) ≤ 12
  few-pairs h j l =
      let u = get_or ws (2 * j) 0 in
      let v = get_or ws (2 * j + 1) 0 in
      let k = leb→le (size (reach_pair N n u v)) 12 (pair-every (λ u v. few (reach_pair N n u v)) ws
      (both wires pairs h).1 j l) in
      let e = pair_size u v in
      omega arith

  few-all : ((w : ℕ) → w < N.wires → length (reach_set N n w) ≤ 12)
      → ((j : ℕ) → j < length ws / 2 → length (pair_set N n (get_or ws (2 * j) 0) (get_or ws (2 * j + 1) 0)) ≤ 12)
      → T (few_reach N n ws)
  few-all h k =
      pair wires pairs
      (all-below (λ w. few (reach N n w)) N.wires (λ w l. let z = h w l in let e = wire-size w
      in true-T _ (le-leb (size (reach N n w)) 12 (omega arith))))
      (every-pair (λ u v. few (reach_pair N n u v)) ws (λ j l.
      let u = get_or ws (2 * j) 0 in
      let v = get_or ws (2 * j + 1) 0 in
      let z = k j l in let e = pair_size u v in true-T _ (le-leb (size (reach_pair N n u v)) 12 (omega arith))))

-- ---- the three ends of the verdicts

not-true-false : (b : Bool) → (T b → ⊥) → b ≡ false
not-true-false true h = absurd (h tt)
not-true-false false h = refl

module _ {t : Tables} {m W o : ℕ} {N : Netlist} (S : Sets) (codes ws : List ℕ) (H : Holds t m W (length codes + 2) o N)
    (below : (i : ℕ) → i < length ws → get_or ws i 0 < W) where
  abbrev n : ℕ
  n = length codes

  abbrev answers : Outcome (BothAnswers WideLeak)
  answers = done (wide_answers N codes ws)

  pub wires-many : {r : Bool} → r ≡ false → Reached N n S r → refused 12 ≡ ask 12 (few_reach N n ws) answers
  wires-many {r} e R =
      let z : few_reach N n ws ≡ false = not-true-false (few_reach N n ws) (λ h. R.many e (few-wires N n ws h)) in
      sym (ap (λ (b : Bool). ask 12 b answers) z)

  module _ {r : Bool} (y : r ≡ true) (R : Reached N n S r) where
    pub given : Given t m W n S o N
    given = record { holds = H; each = λ w l. let e = H.wires in R.each y w (omega arith) }

    pair-given : (j : ℕ) → j < length ws / 2 → pair_at S ws j ≡ pair_set N n (get_or ws (2 * j) 0)
        (get_or ws (2 * j + 1) 0)
    pair-given j l = ap₂ merge (given.each (get_or ws (2 * j) 0) (below (2 * j) (omega arith)))
        (given.each (get_or ws (2 * j + 1) 0) (below (2 * j + 1) (omega arith)))

    pub pairs-many : (PairsFew S ws → ⊥) → refused 12 ≡ ask 12 (few_reach N n ws) answers
    pairs-many h =
        let z : few_reach N n ws ≡ false = not-true-false (few_reach N n ws)
        (λ f. h (λ j l. let k = few-pairs N n ws f j l in let e = ap length (pair-given j l) in omega arith)) in
        sym (ap (λ (b : Bool). ask 12 b answers) z)

    pub all-few : Sized S W → PairsFew S ws → {a : Outcome (BothAnswers WideLeak)} → a ≡ answers → a
        ≡ ask 12 (few_reach N n ws) answers
    all-few Z P {a} e =
        let z : few_reach N n ws ≡ true = is_true (few_reach N n ws) (few-all N n ws
        (λ w l. let q = H.wires in let s = ap length (given.each w (omega arith)) in let k = set-upto S w in let f
        = Z.few w in omega (arith, s, k, f))
        (λ j l. let s = ap length (pair-given j l) in let k = P j l in omega arith)) in
        e ∙ sym (ap (λ (b : Bool). ask 12 b answers) z)

pub told-both : {l k : Option WideLeak} {b d : Option ℕ} → l ≡ k → b ≡ d
    → ◌≡◌ {A = Outcome (BothAnswers WideLeak)} (done (record { leak = l; pairs = b }))
    (done (record { leak = k; pairs = d }))
told-both e f = λ i. done (record { leak = e i; pairs = f i })

-- ---- the test of every pair

pub few-told : (S : Sets) (ws : List ℕ) (r : Bool)
    → MatchBool r (AllWithin (λ j. length (pair_at S ws j) ≤ 12) (range_with_len 0 (length ws / 2)) 0
    (length (range_with_len 0 (length ws / 2))))
    ((k : ℕ) × (k < length (range_with_len 0 (length ws / 2))) × HoldsAt (λ j. 12 < length (pair_at S ws j))
    (range_with_len 0 (length ws / 2)) k)
    → (r ≡ true → PairsFew S ws) × (r ≡ false → PairsFew S ws → ⊥)
few-told S ws true h = (
  λ _ j l.
      let e : get_or (range_with_len 0 (length ws / 2)) j 0 ≡ j
      = omega (arith, get_or-range_with_len 0 (length ws / 2) j 0 l) in
      subst (λ (i : ℕ). length (pair_at S ws i) ≤ 12) e (h j 0 (omega arith)
      (omega (arith, l, length-range_with_len 0 (length ws / 2)))),
  λ e. clash (cc),
)
few-told S ws false h = (
  λ e. clash (cc),
  λ _ few.
      let k = h.0 in
      let l : k < length ws / 2 = omega (arith, h.1, length-range_with_len 0 (length ws / 2)) in
      let e : get_or (range_with_len 0 (length ws / 2)) k 0 ≡ k
      = omega (arith, get_or-range_with_len 0 (length ws / 2) k 0 l) in
      let m : 12 < length (pair_at S ws k) = subst (λ (i : ℕ). 12 < length (pair_at S ws i)) e (h.2 0) in
      omega (arith, m, few k l),
)
