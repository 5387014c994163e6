-- A pass put together: what its parts wrote is what the masked netlist of any source that the tables hold has.
use Prim.Native.Nat.{ℕ, ◌+◌, ◌-◌, ◌≤◌}
use mathlib.Core.Path.{◌≡◌, sym, ap, ap₂, ◌∙◌}
use mathlib.Core.List.{List, ◌++◌}
use native.Mathlib.Omega.{arith}
use lib.ListN.{length, take, drop, length-append, length-drop}
use Rattle.netlist.specs.declared.Gate.{Gate}
use Rattle.netlist.specs.declared.Twin.{Twin}
use Rattle.netlist.specs.Netlist.{Netlist, output_bits}
use Rattle.netlist.specs.Table.{Tables, gates_of, Holds}
use Rattle.masking.specs.Mask.{State, mask_netlist, mask_gates, public_gates, past_publics, emit_all, advance_all}
use Rattle.masking.specs.Mask.{out_gates, out_codes, start, finish}
use Rattle.masking.proofs.GateCount.{next-emit_all}
use Rattle.masking.proofs.OutputGates.{length-out_gates, length-out_codes}
use Rattle.writer.specs.WrittenGates.{WroteGates}
use Rattle.writer.proofs.GateLines.{gates-then, gates-as}
use Rattle.mask_rule.specs.State.{twins_of, state_of, Started}
use Rattle.mask_rule.proofs.States.{twins-length}
use Rattle.mask_rule.proofs.Finishes.{begun, finished}
use Rattle.mask.specs.State.{codes_of, WroteAll}
use Rattle.mask.specs.Pass.{WrotePass, Counted}
use Rattle.mask.proofs.PublicBits.{past-length}
use Rattle.mask.proofs.OutputLines.{out-codes, twins-rest}

-- the gates of a pass, from its first state and the tables after its last source gate
abbrev pass_gates : (cs vs : List ℕ) → State → List Gate → ℕ → (ws es : List ℕ) → List Gate
pass_gates cs vs S gs c ws es =
    mask_gates (length cs) ++ public_gates (length cs) (length cs + 5) 0 cs ++ emit_all (length cs) S gs
    ++ out_gates (length cs) c (drop (length ws - length vs) (twins_of ws es)) vs

lasts : (vs ws es : List ℕ) → length es ≡ length ws → length vs ≤ length ws → length vs
    ≡ length (drop (length ws - length vs) (twins_of ws es))
lasts vs ws es k small = omega (arith, length-drop (length ws - length vs) (twins_of ws es), twins-length ws es k)

counted : (cs vs : List ℕ) (S : State) (gs : List Gate) (c : ℕ) (ws es : List ℕ) → S.next ≡ past_publics (length cs + 5)
    cs → (advance_all S gs).next ≡ c
    → length es ≡ length ws → length vs ≤ length ws → length (pass_gates cs vs S gs c ws es) + (length cs + 2)
    ≡ c + length vs
counted cs vs S gs c ws es first last k small =
    let T : List Twin = drop (length ws - length vs) (twins_of ws es) in
    let publics = past-length (length cs) (length cs + 5) 0 cs in
    let all = next-emit_all (length cs) S gs in
    let many = lasts vs ws es k small in
    let out = length-out_gates (length cs) c T vs many in
    simp length-append (omega arith)

module _ (t : Tables) (count W : ℕ) (cs vs ws es : List ℕ) (N : Netlist) (s : Holds t count W (length cs) (length vs) N)
  where
    pub pass-count : {c : ℕ} → length vs ≤ W → length ws ≡ W → length es ≡ W → state_of c ws es ≡ finish N cs
        → Counted (mask_netlist N cs vs) (length cs) (length vs) (c + length vs)
    unfolding mask_netlist
    pass-count {c} small kw ke last =
        let S : State = start N cs in
        let from : length ws - length vs ≡ N.wires - output_bits N = ap₂ ◌-◌ (kw ∙ sym s.wires) (sym s.outs) in
        let same : pass_gates cs vs S N.gates c ws es ≡ (mask_netlist N cs vs).netlist.gates
        = λ i. mask_gates (sym s.ins i) ++ public_gates (sym s.ins i) (sym s.ins i + 5) 0 cs
        ++ emit_all (sym s.ins i) S N.gates
        ++ out_gates (sym s.ins i) (last i).next (drop (from i) (last i).twins) vs in
        let wires : c + length vs ≡ (mask_netlist N cs vs).netlist.wires = λ i. (last i).next + sym s.outs i in
        let first : S.next ≡ past_publics (length cs + 5) cs = ap (λ (n : ℕ). past_publics (n + 5) cs) s.ins in
        let next : (advance_all S N.gates).next ≡ c = λ i. (sym last i).next in
        let T : List Twin = drop (length ws - length vs) (twins_of ws es) in
        let codes : out_codes T vs ≡ (mask_netlist N cs vs).codes = λ i. out_codes (drop (from i) (last i).twins) vs in
        let many : length vs ≡ length T = lasts vs ws es (ke ∙ sym kw) (omega arith) in
        record {
          wires = wires;
          count = ap (λ (l : List Gate). length l + (length cs + 2)) (sym same) ∙ counted cs vs S N.gates c ws es first
              next (ke ∙ sym kw) (omega arith) ∙ wires;
          many = ap length (sym codes) ∙ length-out_codes T vs many ∙ sym many;
        }

module _ (t : Tables) (count W c₁ : ℕ) (cs vs ws₁ es₁ ws₂ es₂ : List ℕ) (N : Netlist)
    (s : Holds t count W (length cs) (length vs) N) where
  pub pass-made : {e m₁ m₂ m₃ x : List ℕ} {at a b r : ℕ} (R : ℕ × ℕ) → length vs ≤ W → length ws₂ ≡ W → length es₂ ≡ W
      → Started (length cs + 5) cs W c₁ ws₁ es₁
      → WroteGates e at (mask_gates (length cs)) m₁ a → WroteGates m₁ a (public_gates (length cs) (length cs + 5) 0 cs)
      m₂ b
      → WroteAll m₂ b (length cs) (state_of c₁ ws₁ es₁) t count m₃ R (state_of R.1 ws₂ es₂)
      → WroteGates m₃ R.0 (out_gates (length cs) R.1
      (twins_of (take (length ws₂ - (length ws₂ - length vs)) (drop (length ws₂ - length vs) ws₂))
      (take (length es₂ - (length ws₂ - length vs)) (drop (length ws₂ - length vs) es₂))) vs) x r
      → WrotePass e at (mask_netlist N cs vs) (length cs) vs x (r, R.1 + length vs) es₂
  unfolding mask_netlist
  pass-made R small kw ke h masks publics g outs =
      let S : State = state_of c₁ ws₁ es₁ in
      let first : S ≡ start N cs = begun t count W cs N s h in
      let last : state_of R.1 ws₂ es₂ ≡ finish N cs = finished t count W cs N s ws₂ es₂ h g.state in
      let from : length ws₂ - length vs ≡ N.wires - output_bits N = ap₂ ◌-◌ (kw ∙ sym s.wires) (sym s.outs) in
      let same : pass_gates cs vs S (gates_of t count) R.1 ws₂ es₂ ≡ (mask_netlist N cs vs).netlist.gates
      = λ i. mask_gates (sym s.ins i) ++ public_gates (sym s.ins i) (sym s.ins i + 5) 0 cs
      ++ emit_all (sym s.ins i) (first i) (sym s.gates i)
      ++ out_gates (sym s.ins i) (last i).next (drop (from i) (last i).twins) vs in
      let wires : R.1 + length vs ≡ (mask_netlist N cs vs).netlist.wires = λ i. (last i).next + sym s.outs i in
      let T : List Twin = drop (length ws₂ - length vs) (twins_of ws₂ es₂) in
      let codes : out_codes T vs ≡ (mask_netlist N cs vs).codes = λ i. out_codes (drop (from i) (last i).twins) vs in
      let long : length es₂ ≡ length ws₂ = ke ∙ sym kw in
      let next : (advance_all S (gates_of t count)).next ≡ R.1 = λ i. (sym g.state i).next in
      record {
        wrote = gates-as same (gates-then (gates-then (gates-then masks publics) g.wrote)
            (rw (← twins-rest (length ws₂ - length vs) ws₂ es₂) outs));
        wires = wires;
        count = ap (λ (l : List Gate). length l + (length cs + 2)) (sym same) ∙ counted cs vs S (gates_of t count) R.1
            ws₂ es₂ h.next next long
            (omega arith) ∙ wires;
        codes =
            ap (λ (k : ℕ). codes_of (drop (k - length vs) es₂) vs) long ∙ out-codes ws₂ es₂ vs (length ws₂ - length vs)
            long
            ∙ codes;
        many = ap length (sym codes) ∙ length-out_codes T vs (lasts vs ws₂ es₂ long (omega arith))
            ∙ sym (lasts vs ws₂ es₂ long (omega arith));
      }
