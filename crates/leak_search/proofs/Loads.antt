-- The words of a block's input wires, lane by lane.
use mathlib.Core.Path.{◌≡◌, refl, sym, ap, ◌∙◌, subst}
use mathlib.Core.Bool.{Bool, false}
use mathlib.Core.List.{List, [], ◌∷◌}
use Prim.Native.Nat.{ℕ, zero, suc, ◌+◌, ◌*◌, ◌/◌, ◌≤◌, ◌<◌}
use native.Mathlib.Omega.{arith}
use lib.ListN.{length, get_or, set, take, drop, length-set, length-map}
use lib.Seq.{take_at}
use Rattle.netlist.specs.Eval.{differs}
use Rattle.masking.specs.Leak.{mask_of}
use Rattle.netlist.proofs.Laid.{Laid, laid_more, laid-all}
use Rattle.evaluate.specs.Lane.{lane, lanes}
use Rattle.evaluate.proofs.Steps.{set-lanes}
use Rattle.leak_search.specs.Paint.{code_of, colour_of, shade}
use Rattle.leak_search.specs.Base.{kept}
use Rattle.leak_search.specs.Block.{inputs_at}
use Rattle.leak_search.proofs.Inputs.{inputs_long, inputs-at, inputs-m0, inputs-m1}

pub lanes-take : (j n : ℕ) (ws : List ℕ) → lanes j (take n ws) ≡ take n (lanes j ws)
lanes-take j zero ws = refl
lanes-take j (suc n) [] = refl
lanes-take j (suc n) (w ∷ ws) = ap (λ (l : List Bool). lane j w ∷ l) (lanes-take j n ws)

module _ (ps : List ℕ) (secrets : Bool) (block : ℕ) where
  -- the input wires of lane j
  abbrev source : ℕ → List Bool
  source j = inputs_at secrets ps (block * 64 + j)

  -- the first i input wires are laid in each lane
  pub record Loaded (ws₀ ws : List ℕ) (i : ℕ) : Type 0 where
    pub passed : i ≤ length ps + 2
    pub long : length ws ≡ length ws₀
    pub each : (j : ℕ) → j < 64 → Laid false (source j) (lanes j ws₀) (lanes j ws) i

  module _ (ws₀ ws : List ℕ) (room : length ps + 2 ≤ length ws₀) where
    put : (i w : ℕ) → Loaded ws₀ ws i → i < length ps + 2 → ((j : ℕ) → j < 64 → lane j w ≡ get_or (source j) i false)
        → Loaded ws₀ (set ws i w) (i + 1)
    put i w s l h = record {
      passed = omega arith;
      long = length-set ws i w ∙ s.long;
      each = λ j b.
          let e = inputs_long secrets ps (block * 64 + j) in
          let f = length-map ws (lane j) in
          rw (set-lanes j ws i w) (laid_more (lane j w) (s.each j b) (omega arith) (omega (arith, s.long)) (h j b));
    }

    pub loaded-input : (i w : ℕ) → Loaded ws₀ ws i → i < length ps
        → ((j : ℕ) → j < 64 → lane j w ≡ differs (kept secrets (code_of (get_or ps i 0))
        (shade (colour_of (get_or ps i 0)) ((block * 64 + j) / 4)))
        (mask_of (lane 0 (block * 64 + j)) (lane 1 (block * 64 + j)) (code_of (get_or ps i 0))))
        → Loaded ws₀ (set ws i w) (i + 1)
    loaded-input i w s l h = put i w s (omega arith) (λ j b. h j b ∙ sym (inputs-at secrets ps (block * 64 + j) i l))

  -- the mask pair after them
  pub loaded-all : (ws₀ ws : List ℕ) (i m0 m1 : ℕ) → length ps + 2 ≤ length ws₀ → Loaded ws₀ ws i → i ≡ length ps
      → ((j : ℕ) → j < 64 → lane j m0 ≡ lane 0 (block * 64 + j))
      → ((j : ℕ) → j < 64 → lane j m1 ≡ lane 1 (block * 64 + j)) → (j : ℕ) → j < 64
      → lanes j (take (length ps + 2) (set (set ws (length ps) m0) (length ps + 1) m1)) ≡ source j
  loaded-all ws₀ ws i m0 m1 room s e h0 h1 j l =
      let n = length ps in
      let t : Loaded ws₀ ws n = subst (Loaded ws₀ ws) e s in
      let u = put ws₀ ws room n m0 t (omega arith) (λ j b. h0 j b ∙ sym (inputs-m0 secrets ps (block * 64 + j))) in
      let v = put ws₀ (set ws n m0) room (n + 1) m1 u (omega arith)
      (λ j b. h1 j b ∙ sym (inputs-m1 secrets ps (block * 64 + j))) in
      let f = inputs_long secrets ps (block * 64 + j) in
      lanes-take j (n + 2) (set (set ws n m0) (n + 1) m1)
      ∙ ap (take (n + 2)) (laid-all (v.each j l) (omega arith))
      ∙ take_at (source j) (drop (length (source j)) (lanes j ws₀)) (n + 2) f
