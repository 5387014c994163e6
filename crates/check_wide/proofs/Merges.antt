-- The rising list of the inputs that reach a gate's result, from its operands' lists.
use Prim.Native.Nat.{ℕ, zero, suc, ◌+◌, ◌≤◌, ◌<◌}
use mathlib.Core.Path.{◌≡◌, refl, sym, ap, ap₂, ◌∙◌, subst}
use mathlib.Core.Bool.{Bool, true, false, cond, ◌||◌}
use mathlib.Core.List.{List, [], ◌∷◌, ◌++◌}
use native.Mathlib.Omega.{arith}
use lib.Dec.{eqb, ltb}
use borrow.Author.Tests.{lt-ltb, le-ltb, eqb-true, eqb-false, ne_eqb}
use Rattle.netlist.specs.declared.Gate.{Gate}
use Rattle.netlist.specs.declared.Gate.TheVariants.{Xor, And, Inv, Eqw, Eq}
use Rattle.netlist.specs.Netlist.{Netlist, result, input_bits}
use Rattle.netlist.specs.Read.{WellFormed}
use Rattle.netlist.proofs.Tests.{on_bool, All, all_head, all_split}
use Rattle.check_wide.specs.Reach.{touched, reaches, marks, places}
use Rattle.check_wide.specs.Sets.{merge, gate_set, reach_set}
use Rattle.check_wide.proofs.Marks.{reach-gates, reach-input}

-- a list does not begin with i or less
abbrev Above : ℕ → List ℕ → Type 0
Above i [] = Unit
Above i (x ∷ xs) = i < x

places-above : (i j : ℕ) (ks : List Bool) → i < j → Above i (places j ks)
places-above i j [] l = tt
places-above i j (true ∷ ks) l = l
places-above i j (false ∷ ks) l = places-above i (j + 1) ks (omega arith)

pub merge_none : (xs : List ℕ) → merge xs [] ≡ xs
merge_none [] = refl
merge_none (x ∷ xs) = refl

merge-left : (i : ℕ) (xs ys : List ℕ) → Above i ys → merge (i ∷ xs) ys ≡ i ∷ merge xs ys
merge-left i xs [] h = ap (λ (l : List ℕ). i ∷ l) (sym (merge_none xs))
merge-left i xs (y ∷ ys) h = rw (lt-ltb i y h)

merge-right : (i : ℕ) (xs ys : List ℕ) → Above i xs → merge xs (i ∷ ys) ≡ i ∷ merge xs ys
merge-right i [] ys h = refl
merge-right i (x ∷ xs) ys h = rw (le-ltb x i (omega arith), lt-ltb i x h)

merge-both : (i : ℕ) (xs ys : List ℕ) → merge (i ∷ xs) (i ∷ ys) ≡ i ∷ merge xs ys
merge-both i xs ys = rw (le-ltb i i (omega arith))

pub merge-same : (xs : List ℕ) → merge xs xs ≡ xs
merge-same [] = refl
merge-same (x ∷ xs) = merge-both x xs xs ∙ ap (λ (l : List ℕ). x ∷ l) (merge-same xs)

merge_step : (a b : Bool) (i : ℕ) (ks ls ms : List Bool) → merge (places (i + 1) ks) (places (i + 1) ls)
    ≡ places (i + 1) ms
    → merge (places i (a ∷ ks)) (places i (b ∷ ls)) ≡ places i ((a || b) ∷ ms)
merge_step true true i ks ls ms h = merge-both i (places (i + 1) ks) (places (i + 1) ls) ∙ ap (λ (l : List ℕ). i ∷ l) h
merge_step true false i ks ls ms h =
    merge-left i (places (i + 1) ks) (places (i + 1) ls) (places-above i (i + 1) ls (omega arith))
    ∙ ap (λ (l : List ℕ). i ∷ l) h
merge_step false true i ks ls ms h =
    merge-right i (places (i + 1) ks) (places (i + 1) ls) (places-above i (i + 1) ks (omega arith))
    ∙ ap (λ (l : List ℕ). i ∷ l) h
merge_step false false i ks ls ms h = h

-- the numbers of two sets, put together
pub merge-marks : (s t : ℕ → Bool) (i k : ℕ) → merge (places i (marks s i k)) (places i (marks t i k))
    ≡ places i (marks (λ j. s j || t j) i k)
merge-marks s t i zero = refl
merge-marks s t i (suc k) =
    merge_step (s i) (t i) i (marks s (i + 1) k) (marks t (i + 1) k) (marks (λ j. s j || t j) (i + 1) k)
    (merge-marks s t (i + 1) k)

no-marks : (i k : ℕ) → places i (marks (λ j. false) i k) ≡ []
no-marks i zero = refl
no-marks i (suc k) = no-marks (i + 1) k

touched-set : (r : ℕ → ℕ → Bool) (n : ℕ) (g : Gate)
    → places 0 (marks (λ i. touched (r i) g) 0 n) ≡ gate_set (λ w. places 0 (marks (λ i. r i w) 0 n)) g
touched-set r n (Xor a b c) = sym (merge-marks (λ i. r i a) (λ i. r i b) 0 n)
touched-set r n (And a b c) = sym (merge-marks (λ i. r i a) (λ i. r i b) 0 n)
touched-set r n (Inv a c) = refl
touched-set r n (Eqw a c) = refl
touched-set r n (Eq v c) = no-marks 0 n

-- a line makes its result's list of its operands' lists
pub reach-line : {N : Netlist} → WellFormed N → (n : ℕ) (xs : List Gate) (g : Gate) (ys : List Gate) → N.gates ≡ xs
    ++ (g ∷ ys)
    → reach_set N n (result g) ≡ gate_set (reach_set N n) g
reach-line {N} F n xs g ys e =
    (λ k. places 0 (marks (λ i. at i k) 0 n)) ∙ touched-set (reaches N) n g
  where
    at : (i : ℕ) → reaches N i (result g) ≡ touched (reaches N i) g
    at i = all_head (all_split xs (subst (All (λ g. reaches N i (result g) ≡ touched (reaches N i) g)) e
        (reach-gates F i))).1

-- ---- the input wires

marks-same : (s t : ℕ → Bool) (k m : ℕ) → ((i : ℕ) → i < k + m → s i ≡ t i) → marks s k m ≡ marks t k m
marks-same s t k zero h = refl
marks-same s t k (suc m) h = ap₂ (λ (b : Bool) (x : List Bool). b ∷ x) (h k (omega arith))
    (marks-same s t (k + 1) m (λ i l. h i (omega arith)))

following-own : (w k m : ℕ) → w < k → places k (marks (λ i. eqb w i) k m) ≡ []
following-own w k zero l = refl
following-own w k (suc m) l = rw (ne_eqb w k (λ e. omega arith)) (following-own w (k + 1) m (omega arith))

own-place : (w k m : ℕ) → k ≤ w → places k (marks (λ i. eqb w i) k m) ≡ cond (ltb w (k + m)) (w ∷ []) []
own-place w k zero l = rw (le-ltb w (k + 0) (omega arith))
own-place w k (suc m) l =
    on_bool (eqb w k)
    (λ t. let e : w ≡ k = eqb-true w k t in
    rw (t, following-own w (k + 1) m (omega arith), lt-ltb w (k + suc m) (omega arith))
    (ap (λ (i : ℕ). i ∷ []) (sym e)))
    (λ t. let n = eqb-false w k t in
    let q : k + 1 + m ≡ k + suc m = omega arith in
    rw t (own-place w (k + 1) m (omega arith) ∙ ap (λ (j : ℕ). cond (ltb w j) (w ∷ []) []) q))

-- of n inputs an input wire is reached by itself, and the mask pair by none
pub reach-own : {N : Netlist} → WellFormed N → (n w : ℕ) → n ≤ N.wires → w < input_bits N → reach_set N n w
    ≡ cond (ltb w n) (w ∷ []) []
reach-own {N} F n w l h =
    ap (places 0) (marks-same (λ i. reaches N i w) (λ i. eqb w i) 0 n (λ i m. reach-input F i (omega arith) w h))
    ∙ own-place w 0 n (omega arith)
    ∙ ap (λ (j : ℕ). cond (ltb w j) (w ∷ []) []) (let z : 0 + n ≡ n = omega arith in z)
