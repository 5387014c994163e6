-- The state advanced without its gates.
use Prim.Native.Nat.{ℕ, ◌+◌}
use mathlib.Core.Path.{◌≡◌, sym, ap, ap₂, ◌∙◌}
use mathlib.Core.List.{List}
use native.Mathlib.Omega.{arith}
use lib.ListN.{length, set}
use Rattle.netlist.specs.declared.Gate.{Gate}
use Rattle.netlist.specs.declared.Twin.{Twin}
use Rattle.gates.specs.declared.Parts.{Parts}
use Rattle.gates.specs.Parts.{gate_by}
use Rattle.gates.specs.declared.Kind.{Kind}
use Rattle.gates.specs.Kind.{gate_for}
use Rattle.netlist.specs.Table.{Tables, gate_of, gate_at, gates_of}
use Rattle.masking.specs.Mask.{State, twin, result_twin, advance, advance_all}
use Rattle.netlist.proofs.Puts.{gates-more}
use Rattle.mask_rule.specs.Rule.{twin_of}
use Rattle.mask_rule.proofs.ByKind.{twin-of, result-of}
use Rattle.mask_rule.proofs.Twins.{twin-small}
use Rattle.mask_rule.specs.State.{twins_of, state_of, Advanced, AdvancedAll}
use Rattle.mask_rule.proofs.States.{state_with, twins-set, advance_all-more}

-- one step of a gate's parts: the result's twin is stored
pub advanced-made : {c : ℕ} {A B t : Twin} (ws es : List ℕ) (p : Parts) (K : Kind)
    → ((a b c : ℕ) → gate_for K a b c ≡ gate_of p.kind a b c)
    → A ≡ twin (state_of c ws es) p.left → B ≡ twin (state_of c ws es) p.right → t ≡ twin_of c K A B
    → Advanced (state_of c ws es) (gate_by p) (state_of (t.wire + 1) (set ws p.result t.wire) (set es p.result t.code))
advanced-made {c = c} {A = A} {B = B} {t = t} ws es p K said a b h =
    let S : State = state_of c ws es in
    let u : t ≡ result_twin S (gate_for K p.left p.right p.result) = h ∙ ap₂ (twin_of c K) a b
    ∙ sym (twin-of S p.left p.right p.result K) in
    rw (← said p.left p.right p.result) (record {
      state =
          ap (state_with (t.wire + 1)) (twins-set ws es p.result t.wire t.code)
          ∙ ap₂ (λ (v : Twin) (i : ℕ). state_with (v.wire + 1) (set (twins_of ws es) i v)) u
          (sym (result-of p.left p.right p.result K));
      grown = twin-small c K A B h;
    })

-- the state has advanced by the first i gates; the tables have kept their length W
pub record Advancing (t : Tables) (S₀ : State) (c W : ℕ) (ws es : List ℕ) (i : ℕ) : Type 0 where
  pub wires : length ws ≡ W
  pub codes : length es ≡ W
  pub made : AdvancedAll S₀ t i (state_of c ws es)

pub advancing-more : {c r W i : ℕ} {t : Tables} {S₀ : State} {ws es ws' es' : List ℕ} → Advancing t S₀ c W ws es i
    → length ws' ≡ length ws
    → length es' ≡ length es → Advanced (state_of c ws es) (gate_at t i) (state_of r ws' es')
    → Advancing t S₀ r W ws' es' (i + 1)
advancing-more {i = i} {t = t} {S₀ = S₀} h kw ke s =
    let g : Gate = gate_at t i in
    record {
      wires = kw ∙ h.wires;
      codes = ke ∙ h.codes;
      made = record {
        state =
            s.state ∙ ap (λ (S : State). advance S g) h.made.state
            ∙ sym (ap (advance_all S₀) (gates-more t i) ∙ advance_all-more S₀ (gates_of t i) g);
        grown = omega (arith, h.made.grown, s.grown);
      };
    }
