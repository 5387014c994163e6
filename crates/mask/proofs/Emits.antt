-- One source gate's masked gates, put together.
use Prim.Native.Nat.{ℕ, ◌+◌, ◌≤◌}
use mathlib.Core.Path.{◌≡◌, ap, ◌∙◌}
use mathlib.Core.List.{List, [], ◌∷◌}
use Rattle.netlist.specs.declared.Gate.TheVariants.{Xor}
use Rattle.netlist.specs.declared.Twin.{Twin}
use Rattle.masking.specs.Mask.{mask_wire, changed, past, change_gates, rows, row_gates, xor_gates, and_gates}
use Rattle.writer.specs.WrittenGates.{WroteGates}
use Rattle.writer.proofs.GateLines.{gates-then, gates-as}
use Rattle.gates.specs.declared.Kind.{Kind}
use Rattle.mask_rule.proofs.Twins.{twin-small}
use Rattle.mask.specs.Emitted.{WroteKind}

module _ (n c : ℕ) (A B : Twin) {e m x : List ℕ} {at f s r : ℕ} {S : Twin}
    (h : WroteGates e at (change_gates n c A B) m f) (a : S ≡ changed c A B)
    (b : s ≡ past c A B) where
  pub xor-made : WroteGates m f (Xor A.wire S.wire s ∷ []) x r → WroteGates e at (xor_gates n c A B) x r
  xor-made w = gates-then h (gates-as (λ i. Xor A.wire (a i).wire (b i) ∷ []) w)

  pub and-made : {p q : ℕ} → p ≡ mask_wire n A.code → q ≡ mask_wire n S.code
      → WroteGates m f (row_gates rows (A.wire ∷ S.wire ∷ p ∷ q ∷ (n + 4) ∷ []) s) x r
      → WroteGates e at (and_gates n c A B) x r
  and-made u v w =
      let v' = v ∙ ap (λ (S : Twin). mask_wire n S.code) a in
      gates-then h (gates-as (λ i. row_gates rows (A.wire ∷ (a i).wire ∷ u i ∷ v' i ∷ (n + 4) ∷ []) (b i)) w)

-- a source gate takes at most eight wires
pub kind-small : {e x : List ℕ} {at n c : ℕ} {k : Kind} {A B : Twin} {R : ℕ × Twin} → WroteKind e at n c k A B x R
    → R.1.wire + 1 ≤ c + 8
kind-small {c = c} {k = k} {A = A} {B = B} h = twin-small c k A B h.twin
