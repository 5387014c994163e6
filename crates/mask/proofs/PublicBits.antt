-- The gates of the public bits.
use Prim.Native.Nat.{ℕ, zero, suc, ◌+◌, ◌<◌}
use mathlib.Core.Path.{◌≡◌, sym, ap, ap₂, ◌∙◌}
use mathlib.Core.List.{List, [], ◌∷◌, ◌++◌, append_assoc, append-nil}
use native.Mathlib.Nat.{not-suc-le-zero, le_of_suc-le-suc}
use native.Mathlib.Numerals.{add-one}
use native.Mathlib.Omega.{arith}
use lib.ListN.{length, get_or, take}
use Rattle.netlist.specs.declared.Gate.{Gate}
use Rattle.masking.specs.Mask.{is_public, public_gate, public_gates, past_public, past_publics}
use Rattle.netlist.proofs.Tests.{on_bool}
use Rattle.writer.specs.WrittenGates.{WroteGates}
use Rattle.writer.proofs.GateLines.{gates-then, gates-as}
use Rattle.mask_rule.proofs.PublicWires.{Passed, passed-more}

publics-more : (n c k : ℕ) (es : List ℕ) (i : ℕ) → i < length es
    → public_gates n c k (take i es) ++ public_gate n (past_publics c (take i es)) (k + i) (get_or es i 0)
    ≡ public_gates n c k (take (suc i) es)
publics-more n c k [] i h = absurd (not-suc-le-zero h)
publics-more n c k (e ∷ es) zero h =
    let z : k + 0 ≡ k = omega arith in
    ap (λ (w : ℕ). public_gate n c w e) z ∙ sym (append-nil (public_gate n c k e))
publics-more n c k (e ∷ es) (suc i) h =
    let z : k + suc i ≡ k + 1 + i = omega arith in
    let d : ℕ = past_public c e in
    append_assoc (public_gate n c k e) (public_gates n d (k + 1) (take i es))
    (public_gate n (past_publics d (take i es)) (k + suc i) (get_or es i 0))
    ∙ ap (λ (l : List Gate). public_gate n c k e ++ l)
    (ap (λ (w : ℕ). public_gates n d (k + 1) (take i es) ++ public_gate n (past_publics d (take i es)) w
    (get_or es i 0)) z
    ∙ publics-more n d (k + 1) es i (le_of_suc-le-suc h))

-- the next wire moves by the gates
pub past-length : (n c k : ℕ) (es : List ℕ) → past_publics c es ≡ c + length (public_gates n c k es)
past-length n c k [] = omega arith
past-length n c k (e ∷ es) =
    on_bool (is_public e)
    (λ z. rw z (omega (arith, past-length n (c + 1) (k + 1) es)))
    (λ z. rw z (past-length n c (k + 1) es))

-- the gates of the first i inputs were written
pub record Opened (e : List ℕ) (at n c : ℕ) (cs x : List ℕ) (r v i : ℕ) : Type 0 where
  pub inputs : Passed c cs v i
  pub wrote : WroteGates e at (public_gates n c 0 (take i cs)) x r

pub opened-more : {e cs m x : List ℕ} {at n c r s v v' i : ℕ} → Opened e at n c cs m r v i → i < length cs
    → WroteGates m r (public_gate n v i (get_or cs i 0)) x s → v' ≡ past_public v (get_or cs i 0)
    → Opened e at n c cs x s v' (i + 1)
opened-more {cs = cs} {n = n} {c = c} {v = v} {i = i} h l g p =
    let e : ℕ = get_or cs i 0 in
    let here : public_gate n v i e ≡ public_gate n (past_publics c (take i cs)) (0 + i) e
    = ap₂ (λ (u j : ℕ). public_gate n u j e) h.inputs.next (omega arith) in
    record {
      inputs = passed-more h.inputs l p;
      wrote = gates-as (ap (λ (l : List Gate). public_gates n c 0 (take i cs) ++ l) here
          ∙ rw add-one (publics-more n c 0 cs i l)) (gates-then h.wrote g);
    }
