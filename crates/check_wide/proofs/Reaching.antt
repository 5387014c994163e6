-- The sets of all wires, one gate line a turn.
use Prim.Native.Nat.{ℕ, zero, suc, ◌+◌, ◌≤◌, ◌<◌}
use mathlib.Core.Path.{◌≡◌, refl, sym, ap, ap₂, ◌∙◌, subst}
use mathlib.Core.Bool.{Bool, true, false, cond, ◌&&◌}
use mathlib.Core.List.{List, [], ◌∷◌, ◌++◌, append_assoc}
use mathlib.Core.Logic.{◌≢◌}
use native.Mathlib.Omega.{arith}
use lib.Dec.{T, eqb, ltb}
use lib.ListN.{length, get_or}
use borrow.Author.Tests.{ltb-true, ltb-false, lt-ltb}
use Rattle.netlist.specs.declared.Gate.{Gate}
use Rattle.netlist.specs.declared.Gate.TheVariants.{Xor, And, Inv, Eqw, Eq}
use Rattle.netlist.specs.Netlist.{Netlist, input_bits, result}
use Rattle.netlist.specs.Read.{operands_given, is_given, gates_good, WellFormed}
use Rattle.netlist.specs.Table.{Tables, gate_of, gate_at, gates_of, Holds}
use Rattle.netlist.proofs.Tests.{clash, on_bool, both}
use Rattle.netlist.proofs.Puts.{gates-more}
use Rattle.netlist.proofs.GoodGates.{GoodGate, good_gate, fresh-ne, given-none, given-cases, results, every-wire-given}
use Rattle.gates.specs.declared.Parts.{Parts}
use Rattle.gates.specs.Parts.{parts_of, gate_by}
use Rattle.check_wide.specs.Sets.{merge, gate_set, reach_set}
use Rattle.check_wide.proofs.Merges.{reach-line, reach-own}
use Rattle.check_wide.specs.Packed.{Sets, set_at, start_set, Sized, Put}
use Rattle.check_wide.specs.Reached.{Lined, Reached}

-- ---- gates one after the other

split-gates : {P : Type 0} (t : Tables) (m i : ℕ) → i < m → ((rest : List Gate) → gates_of t m ≡ gates_of t i
    ++ (gate_at t i ∷ rest) → P) → P
split-gates t zero i l f = absurd (omega arith)
split-gates t (suc m) i l f =
    on_bool (ltb i m)
    (λ b. split-gates t m i (ltb-true i m b) (λ rest e. f (rest ++ (gate_at t m ∷ []))
    (ap (λ (gs : List Gate). gs ++ (gate_at t m ∷ [])) e ∙ append_assoc (gates_of t i) (gate_at t i ∷ rest)
    (gate_at t m ∷ []))))
    (λ b. let k = ltb-false i m b in let e : m ≡ i = omega arith
    in f [] (ap (λ (j : ℕ). gates_of t j ++ (gate_at t j ∷ [])) e))

good-split : (n W : ℕ) (rs : List ℕ) (xs : List Gate) (g : Gate) (ys : List Gate)
    → T (gates_good n W rs (xs ++ (g ∷ ys))) → GoodGate n W (results rs xs) g ys
good-split n W rs [] g ys t = good_gate t
good-split n W rs (x ∷ xs) g ys t = let G : GoodGate n W rs x (xs ++ (g ∷ ys)) = good_gate t
    in good-split n W (result x ∷ rs) xs g ys G.rest

results-more : (rs : List ℕ) (xs : List Gate) (g : Gate) → results rs (xs ++ (g ∷ [])) ≡ result g ∷ results rs xs
results-more rs [] g = refl
results-more rs (x ∷ xs) g = results-more (result x ∷ rs) xs g

-- a gate's set looks at its operands only
set_same : (has : ℕ → Bool) (s t : ℕ → List ℕ) (g : Gate) → T (operands_given has g) → ((a : ℕ) → T (has a) → s a ≡ t a)
    → gate_set s g ≡ gate_set t g
set_same has s t (Xor a b c) o h = ap₂ merge (h a (both (has a) (has b) o).0) (h b (both (has a) (has b) o).1)
set_same has s t (And a b c) o h = ap₂ merge (h a (both (has a) (has b) o).0) (h b (both (has a) (has b) o).1)
set_same has s t (Inv a c) o h = h a o
set_same has s t (Eqw a c) o h = h a o
set_same has s t (Eq k c) o h = refl

-- ---- the loop

-- the wires that are given before line i have their sets, whatever netlist the tables hold
abbrev Known : Tables → ℕ → ℕ → ℕ → Sets → ℕ → Type 0
Known t m W n S i =
    (o : ℕ) (N : Netlist) → Holds t m W (n + 2) o N → WellFormed N → (w : ℕ)
    → T (is_given (n + 2) (results [] (gates_of t i)) w) → set_at S w ≡ reach_set N n w

pub record Reaching (t : Tables) (m W n : ℕ) (S : Sets) (i : ℕ) : Type 0 where
  pub passed : i ≤ m
  pub sized : Sized S W
  pub known : Known t m W n S i

pub reaching-none : {t : Tables} {m W n : ℕ} {S : Sets} → Sized S W → ((w : ℕ) → set_at S w ≡ start_set n W w)
    → Reaching t m W n S 0
reaching-none {t} {m} {W} {n} {S} z start = record {
  passed = omega arith;
  sized = z;
  known = λ o N H F w g.
      let l = given-none (n + 2) w g in
      let f = F.inputs_fit in
      let e = H.ins in
      let v = H.wires in
      let b : w < W = omega arith in
      start w ∙ ap (λ (t : Bool). cond (ltb w n && t) (w ∷ []) []) (lt-ltb w W b) ∙ and-true (ltb w n) w
      ∙ sym (reach-own F n w (omega arith) (omega arith));
}
  where
    and-true : (a : Bool) (w : ℕ) → cond (a && true) (w ∷ []) [] ≡ cond a (w ∷ []) []
    and-true true w = refl
    and-true false w = refl

module _ {t : Tables} {m W n : ℕ} {S : Sets} {i : ℕ} (R : Reaching t m W n S i) (l : i < m) where
  abbrev g : Gate
  g = gate_at t i

  -- the gate's set is that of its result
  line_set : (o : ℕ) (N : Netlist) → Holds t m W (n + 2) o N → WellFormed N
      → (gate_set (set_at S) g ≡ reach_set N n (result g)) × (result g < W)
      × ((w : ℕ) → T (is_given (n + 2) (results [] (gates_of t i)) w) → w ≢ result g)
  line_set o N H F = split-gates t m i l λ rest e.
      let q : N.gates ≡ gates_of t i ++ (g ∷ rest) = H.gates ∙ e in
      let good : T (gates_good (n + 2) W [] (gates_of t i ++ (g ∷ rest)))
      = subst (λ (gs : List Gate). T (gates_good (n + 2) W [] gs)) q
      (subst (λ (k : ℕ). T (gates_good k W [] N.gates)) H.ins
      (subst (λ (k : ℕ). T (gates_good (input_bits N) k [] N.gates)) H.wires F.good)) in
      let G = good-split (n + 2) W [] (gates_of t i) g rest good in (
        set_same (is_given (n + 2) (results [] (gates_of t i))) (set_at S) (reach_set N n) g G.operands
            (R.known o N H F)
            ∙ sym (reach-line F n (gates_of t i) g rest q),
        G.high,
        λ w v. fresh-ne (n + 2) (results [] (gates_of t i)) w (result g) v G.low G.fresh,
      )

  pub reaching-more : {S' : Sets} {c : ℕ} → c ≡ result g → Put S S' c (gate_set (set_at S) g)
      → Reaching t m W n S' (i + 1)
  reaching-more {S'} {c} e P = record {
    passed = omega arith;
    sized = P.sized W R.sized;
    known = λ o N H F w v.
        let L = line_set o N H F in
        let q : results [] (gates_of t (i + 1)) ≡ result g ∷ results [] (gates_of t i)
        = ap (results []) (gates-more t i) ∙ results-more [] (gates_of t i) g in
        given-cases (n + 2) (results [] (gates_of t i)) (result g) w
        (subst (λ (rs : List ℕ). T (is_given (n + 2) rs w)) q v)
        (λ x. ap (set_at S') (x ∙ sym e) ∙ P.here ∙ L.0 ∙ ap (reach_set N n) (sym x))
        (λ x y. P.others w (λ z. x (z ∙ e)) ∙ R.known o N H F w y);
  }

  pub reaching-full : {S' : Sets} → 12 < length (gate_set (set_at S) g) → (o : ℕ) (N : Netlist)
      → Holds t m W (n + 2) o N → WellFormed N
      → Reached N n S' false
  reaching-full h o N H F =
      let L = line_set o N H F in
      let k = ap length L.0 in
      let v = H.wires in
      record { each = λ e. clash (cc); many = λ _ few. let f = few (result g) (omega (arith, L.1)) in omega arith }

pub reaching-all : {t : Tables} {m W n : ℕ} {S : Sets} {i : ℕ} → Reaching t m W n S i → m ≤ i → (o : ℕ) (N : Netlist)
    → Holds t m W (n + 2) o N
    → WellFormed N → Reached N n S true
reaching-all {t} {m} {W} {n} {S} {i} R l o N H F = record {
  each = λ _ w b.
      let e : i ≡ m = omega (arith, R.passed) in
      R.known o N H F w (subst (λ (k : ℕ). T (is_given (n + 2) (results [] (gates_of t k)) w)) (sym e)
      (subst (λ (gs : List Gate). T (is_given (n + 2) (results [] gs) w)) H.gates
      (subst (λ (k : ℕ). T (is_given k (results [] N.gates) w)) H.ins (every-wire-given F w b))));
  many = λ e. clash (cc);
}

-- ---- a line in the tables

result-of : (k a b c : ℕ) → result (gate_of k a b c) ≡ c
result-of k a b c = go (eqb k 1) (eqb k 2) (eqb k 3) (eqb k 4) (eqb k 5)
  where
    go : (t₁ t₂ t₃ t₄ t₅ : Bool)
        → result (cond t₁ (Xor a b c)
        (cond t₂ (And a b c) (cond t₃ (Inv a c) (cond t₄ (Eqw a c) (cond t₅ (Eq 0 c) (Eq 1 c)))))) ≡ c
    go true t₂ t₃ t₄ t₅ = refl
    go false true t₃ t₄ t₅ = refl
    go false false true t₄ t₅ = refl
    go false false false true t₅ = refl
    go false false false false true = refl
    go false false false false false = refl

module _ {t : Tables} {m W n : ℕ} {S S' : Sets} {i : ℕ} {p : Parts} {r : Bool} (R : Reaching t m W n S i) (l : i < m)
    (e : p ≡ parts_of (get_or t.operands i 0) (get_or t.results i 0))
    (L : Lined S S' p.result (gate_set (set_at S) (gate_by p)) r) where
  abbrev q : Parts
  q = parts_of (get_or t.operands i 0) (get_or t.results i 0)

  lined : Lined S S' q.result (gate_set (set_at S) (gate_by q)) r
  lined = subst (λ (p : Parts). Lined S S' p.result (gate_set (set_at S) (gate_by p)) r) e L

  pub line-more : r ≡ true → Reaching t m W n S' (i + 1)
  line-more y = reaching-more R l (sym (result-of q.kind q.left q.right q.result)) (lined.put y)

  pub line-full : r ≡ false → (o : ℕ) (N : Netlist) → Holds t m W (n + 2) o N → WellFormed N → Reached N n S' false
  line-full y = reaching-full R l (lined.many y)

-- the list became the set
pub told : {S S' : Sets} {c : ℕ} {is : List ℕ} → Put S S' c is → Lined S S' c is true
told P = record { put = λ _. P; many = λ e. clash (cc) }
