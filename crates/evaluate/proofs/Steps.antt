-- Gates in tables, run on words lane by lane.
use mathlib.Core.Path.{◌≡◌, refl, sym, ap, ap₂, ◌∙◌}
use mathlib.Core.Bool.{Bool, true, false, cond, not, ◌&&◌}
use mathlib.Core.List.{List, [], ◌∷◌, ◌++◌}
use Prim.Native.Nat.{ℕ, zero, suc, ◌+◌, ◌≤◌, ◌<◌}
use native.Mathlib.Omega.{arith}
use lib.Dec.{eqb}
use lib.ListN.{length, get_or, set, get_or-map}
use Rattle.netlist.specs.declared.Gate.{Gate}
use Rattle.netlist.specs.declared.Gate.TheVariants.{Xor, And, Inv, Eqw, Eq}
use Rattle.netlist.specs.Netlist.{result}
use Rattle.netlist.specs.Eval.{differs, made, bits_at, run_gates}
use Rattle.netlist.specs.Table.{gate_of, made_of, gate_at, gates_of, Tables}
use Rattle.netlist.proofs.Puts.{gates-more}
use Rattle.gates.specs.declared.Parts.{Parts}
use Rattle.evaluate.specs.Lane.{lane, lanes}
use Rattle.gates.specs.Parts.{parts_of, gate_by}
use Rattle.evaluate.proofs.Lanes.{lane-zero}

pub get_d-lanes : (j : ℕ) (ws : List ℕ) (a : ℕ) → get_or (lanes j ws) a false ≡ lane j (get_or ws a 0)
get_d-lanes j ws a = rw (← lane-zero j) (get_or-map (lane j) ws a 0)

pub set-lanes : (j : ℕ) (ws : List ℕ) (c w : ℕ) → lanes j (set ws c w) ≡ set (lanes j ws) c (lane j w)
set-lanes j [] c w = refl
set-lanes j (x ∷ ws) zero w = refl
set-lanes j (x ∷ ws) (suc c) w = ap (λ (l : List Bool). lane j x ∷ l) (set-lanes j ws c w)

-- the kind picks a gate by five tests; what holds of each gate that it can pick holds of the one that it picks
pub by_kind : (P : Gate → Bool → Type 0) (u : ℕ → Bool) (k a b c : ℕ)
    → ((g : Gate) → result g ≡ c → P g (made u g)) → P (gate_of k a b c) (made_of k (u a) (u b))
by_kind P u k a b c h = go (eqb k 1) (eqb k 2) (eqb k 3) (eqb k 4) (eqb k 5)
  where
    go : (t₁ t₂ t₃ t₄ t₅ : Bool)
        → P (cond t₁ (Xor a b c)
        (cond t₂ (And a b c) (cond t₃ (Inv a c) (cond t₄ (Eqw a c) (cond t₅ (Eq 0 c) (Eq 1 c))))))
        (cond t₁ (differs (u a) (u b)) (cond t₂ (u a && u b)
        (cond t₃ (not (u a)) (cond t₄ (u a) (cond t₅ false true)))))
    go true t₂ t₃ t₄ t₅ = h (Xor a b c) refl
    go false true t₃ t₄ t₅ = h (And a b c) refl
    go false false true t₄ t₅ = h (Inv a c) refl
    go false false false true t₅ = h (Eqw a c) refl
    go false false false false true = h (Eq 0 c) refl
    go false false false false false = h (Eq 1 c) refl

-- one gate on lanes
pub step-lanes : (j : ℕ) (ws : List ℕ) (k a b c w : ℕ) → lane j w ≡ made_of k (lane j (get_or ws a 0))
    (lane j (get_or ws b 0))
    → lanes j (set ws c w) ≡ run_gates (lanes j ws) (gate_of k a b c ∷ [])
step-lanes j ws k a b c w e =
    set-lanes j ws c w
    ∙ ap (set (lanes j ws) c) (e ∙ ap₂ (made_of k) (sym (get_d-lanes j ws a)) (sym (get_d-lanes j ws b)))
    ∙ by_kind (λ g t. set (lanes j ws) c t ≡ run_gates (lanes j ws) (g ∷ [])) (bits_at (lanes j ws)) k a b c
    (λ g r. ap (λ (n : ℕ). set (lanes j ws) n (made (bits_at (lanes j ws)) g)) (sym r))

run_more : (v : List Bool) (gs : List Gate) (g : Gate) → run_gates v (gs ++ (g ∷ [])) ≡ run_gates (run_gates v gs)
    (g ∷ [])
run_more v [] g = refl
run_more v (h ∷ gs) g = run_more (set v (result h) (made (bits_at v) h)) gs g

-- the first i of n gates have run
pub record Ran (t : Tables) (n : ℕ) (ws₀ ws : List ℕ) (i : ℕ) : Type 0 where
  pub passed : i ≤ n
  pub long : length ws ≡ length ws₀
  pub same : (j : ℕ) → j < 64 → lanes j ws ≡ run_gates (lanes j ws₀) (gates_of t i)

pub ran-none : (t : Tables) (n : ℕ) (ws : List ℕ) → Ran t n ws ws 0
ran-none t n ws = record { passed = omega arith; long = refl; same = λ j l. refl }

pub ran-more : {t : Tables} {n : ℕ} {ws₀ ws : List ℕ} {i : ℕ} (us : List ℕ) → Ran t n ws₀ ws i → i < n → length us
    ≡ length ws
    → ((j : ℕ) → j < 64 → lanes j us ≡ run_gates (lanes j ws) (gate_at t i ∷ [])) → Ran t n ws₀ us (i + 1)
ran-more {t} {n} {ws₀} {ws} {i} us r l k h = record {
  passed = omega arith;
  long = k ∙ r.long;
  same = λ j m.
      h j m ∙ ap (λ (v : List Bool). run_gates v (gate_at t i ∷ [])) (r.same j m)
      ∙ sym (run_more (lanes j ws₀) (gates_of t i) (gate_at t i)) ∙ ap (run_gates (lanes j ws₀)) (sym (gates-more t i));
}

pub ran-all : {t : Tables} {n : ℕ} {ws₀ ws : List ℕ} {i : ℕ} → Ran t n ws₀ ws i → n ≤ i → (j : ℕ) → j < 64
    → lanes j ws ≡ run_gates (lanes j ws₀) (gates_of t n)
ran-all {t} {n} {ws₀} {ws} {i} r l j m =
    let e : i ≡ n = omega (arith, r.passed) in
    r.same j m ∙ ap (λ (k : ℕ). run_gates (lanes j ws₀) (gates_of t k)) e

-- and the next is taken apart
pub record Ahead (t : Tables) (n : ℕ) (ws₀ ws : List ℕ) (i : ℕ) (p : Parts) : Type 0 where
  pub ran : Ran t n ws₀ ws i
  pub inside : i < n
  pub parts : p ≡ parts_of (get_or t.operands i 0) (get_or t.results i 0)

module _ {t : Tables} {n : ℕ} {ws₀ ws : List ℕ} {i : ℕ} {p : Parts} (a : Ahead t n ws₀ ws i p) where
  pub ahead_step : (us : List ℕ) → length us ≡ length ws → ((j : ℕ) → j < 64 → lanes j us
      ≡ run_gates (lanes j ws) (gate_by p ∷ []))
      → Ran t n ws₀ us (i + 1)
  ahead_step us k h = ran-more us a.ran a.inside k (λ j l. h j l
      ∙ ap (λ (q : Parts). run_gates (lanes j ws) (gate_by q ∷ [])) a.parts)
