-- What a source gate makes of the state.
use Prim.Native.Nat.{ℕ, ◌+◌}
use mathlib.Core.Path.{◌≡◌, sym, ap, ap₂, ◌∙◌}
use mathlib.Core.List.{List, [], ◌∷◌, ◌++◌, append_assoc, append-nil}
use native.Mathlib.Omega.{arith}
use lib.ListN.{length, set}
use Rattle.netlist.specs.declared.Gate.{Gate}
use Rattle.netlist.specs.declared.Twin.{Twin}
use Rattle.gates.specs.declared.Parts.{Parts}
use Rattle.gates.specs.Parts.{gate_by}
use Rattle.gates.specs.declared.Kind.{Kind}
use Rattle.gates.specs.Kind.{gate_for}
use Rattle.netlist.specs.Table.{Tables, gate_of, gate_at, gates_of}
use Rattle.masking.specs.Mask.{State, twin, emit, result_twin, advance, emit_all, advance_all}
use Rattle.netlist.proofs.Puts.{gates-more}
use Rattle.writer.proofs.GateLines.{gates-then, gates-as}
use Rattle.mask_rule.specs.Rule.{steps_of, twin_of}
use Rattle.mask.specs.Emitted.{WroteKind}
use Rattle.mask_rule.proofs.ByKind.{emit-of, twin-of, result-of}
use Rattle.mask.proofs.Emits.{kind-small}
use Rattle.mask_rule.specs.State.{twins_of, state_of}
use Rattle.mask_rule.proofs.States.{twins-set, state_with, advance_all-more}
use Rattle.mask.specs.State.{WroteStep, WroteAll}

-- one step of a gate's parts: with the operands' twins the gates are written, and the result's twin is stored
pub step-made : {e x : List ℕ} {at n c : ℕ} {R : ℕ × Twin} {A B : Twin} (ws es : List ℕ) (p : Parts) (K : Kind)
    → ((a b c : ℕ) → gate_for K a b c ≡ gate_of p.kind a b c) → A ≡ twin (state_of c ws es) p.left → B
    ≡ twin (state_of c ws es) p.right
    → WroteKind e at n c K A B x R
    → WroteStep e at n (state_of c ws es) (gate_by p) x (R.0, R.1.wire + 1)
    (state_of (R.1.wire + 1) (set ws p.result R.1.wire) (set es p.result R.1.code))
step-made {n = n} {c = c} {R = R} ws es p K said a b h =
    let S : State = state_of c ws es in
    let t : R.1 ≡ result_twin S (gate_for K p.left p.right p.result) = h.twin ∙ ap₂ (twin_of c K) a b
    ∙ sym (twin-of S p.left p.right p.result K) in
    rw (← said p.left p.right p.result) (record {
      wrote = gates-as (ap₂ (steps_of n c K) a b ∙ sym (emit-of S p.left p.right p.result n K)) h.wrote;
      state =
          ap (state_with (R.1.wire + 1)) (twins-set ws es p.result R.1.wire R.1.code)
          ∙ ap₂ (λ (u : Twin) (i : ℕ). state_with (u.wire + 1) (set (twins_of ws es) i u)) t
          (sym (result-of p.left p.right p.result K));
      grown = kind-small h;
    })

emit_all-more : (n : ℕ) (S : State) (gs : List Gate) (g : Gate) → emit_all n S (gs ++ (g ∷ [])) ≡ emit_all n S gs
    ++ emit n (advance_all S gs) g
emit_all-more n S [] g = append-nil (emit n S g)
emit_all-more n S (h ∷ gs) g =
    ap (λ (l : List Gate). emit n S h ++ l) (emit_all-more n (advance S h) gs g)
    ∙ sym (append_assoc (emit n S h) (emit_all n (advance S h) gs) (emit n (advance_all (advance S h) gs) g))

-- the first i gates were masked; the tables have kept their length W
pub record Emitting (e : List ℕ) (at n : ℕ) (t : Tables) (S₀ : State) (x : List ℕ) (r c W : ℕ) (ws es : List ℕ)
    (i : ℕ) : Type 0 where
  pub wires : length ws ≡ W
  pub codes : length es ≡ W
  pub made : WroteAll e at n S₀ t i x (r, c) (state_of c ws es)

pub emitting-more : {e x y : List ℕ} {at n r c W i : ℕ} {t : Tables} {S₀ : State} {ws es ws' es' : List ℕ} {R : ℕ × ℕ}
    → Emitting e at n t S₀ x r c W ws es i
    → length ws' ≡ length ws → length es' ≡ length es
    → WroteStep x r n (state_of c ws es) (gate_at t i) y R (state_of R.1 ws' es') → Emitting e at n t S₀ y R.0 R.1 W ws'
    es' (i + 1)
emitting-more {n = n} {c = c} {i = i} {t = t} {S₀ = S₀} {ws = ws} {es = es} h kw ke s =
    let g : Gate = gate_at t i in
    let p = h.made.state in
    let more : emit_all n S₀ (gates_of t i) ++ emit n (state_of c ws es) g ≡ emit_all n S₀ (gates_of t (i + 1))
    = ap (λ (S : State). emit_all n S₀ (gates_of t i) ++ emit n S g) p
    ∙ sym (ap (emit_all n S₀) (gates-more t i) ∙ emit_all-more n S₀ (gates_of t i) g) in
    let on : advance (state_of c ws es) g ≡ advance_all S₀ (gates_of t (i + 1))
    = ap (λ (S : State). advance S g) p ∙ sym (ap (advance_all S₀) (gates-more t i) ∙ advance_all-more S₀ (gates_of t i)
    g) in
    record {
      wires = kw ∙ h.wires;
      codes = ke ∙ h.codes;
      made = record {
        wrote = gates-as more (gates-then h.made.wrote s.wrote);
        state = s.state ∙ on;
        grown
            = omega (arith, h.made.grown, s.grown);
      };
    }
