-- The masked gates of a source gate: its twin carries what the source gate makes, and every wire that they add is
-- balanced.
use Prim.Native.Nat.{ℕ, ◌+◌, ◌≤◌, ◌<◌}
use mathlib.Core.Path.{◌≡◌, refl, ap, ◌∙◌}
use mathlib.Core.Bool.{Bool, true, false, cond, not, ◌&&◌}
use mathlib.Core.List.{List, [], ◌∷◌, map}
use native.Mathlib.Omega.{arith}
use lib.Dec.{T, lit<, eqb, ltb→lt}
use borrow.Author.Tests.{eqb-true, eqb-false, eq-eqb, ne_eqb}
use lib.ListN.{length, get_or}
use Rattle.netlist.specs.declared.Gate.{Gate}
use Rattle.netlist.specs.declared.Gate.TheVariants.{Xor, And, Inv, Eqw, Eq}
use Rattle.netlist.specs.declared.Twin.{Twin}
use Rattle.netlist.specs.Netlist.{result}
use Rattle.netlist.specs.Eval.{differs, made}
use Rattle.netlist.specs.Read.{operands_given, is_given, gates_good}
use Rattle.masking.specs.Mask.{is_code, rows, row_gates, change_gates, changed, past, xor_gates, xor_twin, and_gates}
use Rattle.masking.specs.Mask.{and_twin, State, twin, emit, result_twin, advance, emit_all, advance_all}
use Rattle.netlist.proofs.Tests.{both, on_bool, empty, each, all_head, all_tail, all_append}
use Rattle.masking.proofs.CodeLaws.{third-code}
use Rattle.masking.proofs.MaskedBits.{xor-law, not-differs}
use Rattle.netlist.proofs.GoodGates.{GoodGate, good_gate, results, given-cases}
use Rattle.netlist.proofs.Models.{Models}
use Rattle.netlist.proofs.Order.{AllWires}
use Rattle.masking.specs.AndBits.{row_bits, operand_bits}
use Rattle.masking.proofs.AndRows.{step_bits, and-law, step_counts, and-count, walk_rows}
use Rattle.masking.proofs.AndRows.{rows-wires}
use Rattle.masking.proofs.Placed.{Placed, prepare, and_places, AllPlaced, place-gate, twin-new, twin-old}
use Rattle.masking.proofs.Carries.{Family, Satisfies, Balanced, Carries, Masks, satisfies-split, balanced}
use Rattle.masking.proofs.Carries.{carries-balanced, mask-wire, change-carries}

-- gates whose last wire is a twin that carries s, all of their wires balanced
record Twinned {X : Type 0} (U : Family X) (A : Twin) (s : X → Bool) (gs : List Gate) : Type 0 where
  carries : Carries U A s
  even : AllWires (Balanced U) gs

module _ {X : Type 0} {U : Family X} {n : ℕ} (K : Masks U n) where
  -- one gate, at a wire that carries s
  single : (A : Twin) (s : X → Bool) (g : Gate) → A.wire ≡ result g → T (is_code A.code) → Carries U A s
      → Twinned U A s (g ∷ [])
  single A s g r p h = record { carries = h; even = each (rw r at (carries-balanced U A s p h)) empty }

  -- XOR
  xor-twin : (c : ℕ) (A B : Twin) (s t : X → Bool) → n + 5 ≤ c → Placed c A → Placed c B → Carries U A s → Carries U B t
      → Satisfies U (xor_gates n c A B) → Twinned U (xor_twin c A B) (λ x. differs (s x) (t x)) (xor_gates n c A B)
  xor-twin c A B s t r P Q a b m =
      let D = changed c A B in
      let E = prepare n c A B r P Q in
      let p = P.code in
      let q = E.second.code in
      let z = satisfies-split U (change_gates n c A B) m in
      let ch = change-carries K c A B t Q.code z.0 b in
      let R = single (xor_twin c A B) (λ x. differs (s x) (t x)) (Xor A.wire D.wire (past c A B)) refl
      (third-code A.code D.code p q E.other)
      (λ x m0 m1. all_head (z.1 x m0 m1) ∙ rw (a x m0 m1, ch.0 x m0 m1)
      (xor-law A.code D.code p q E.other (s x) (t x) m0 m1)) in
      record { carries = R.carries; even = all_append ch.1 R.even }

  -- step j + 1 of the masked AND stands at wire d + j
  and-steps : (d : ℕ) (A D : Twin) (s t : X → Bool) → T (is_code A.code) → T (is_code D.code) → Carries U A s
      → Carries U D t
      → Satisfies U (row_gates rows (and_places n A D) d)
      → (j : ℕ) → j < 7 → (x : X) (m0 m1 : Bool) → U x m0 m1 (d + j)
      ≡ get_or (step_bits A.code D.code (s x) (t x) m0 m1) j false
  unfolding step_bits
  and-steps d A D s t p q a b m j h x m0 m1 =
      let bits : map (U x m0 m1) (and_places n A D) ≡ operand_bits A.code D.code (s x) (t x) m0 m1
      = rw (a x m0 m1, b x m0 m1, mask-wire K A.code p x m0 m1, mask-wire K D.code q x m0 m1, K.or x m0 m1) refl in
      walk_rows (U x m0 m1) rows (and_places n A D) d tt (m x m0 m1) j h ∙ ap (λ vs. get_or (row_bits rows vs) j false)
      bits

  -- AND
  and-twin : (c : ℕ) (A B : Twin) (s t : X → Bool) → n + 5 ≤ c → Placed c A → Placed c B → Carries U A s → Carries U B t
      → Satisfies U (and_gates n c A B) → Twinned U (and_twin c A B) (λ x. s x && t x) (and_gates n c A B)
  and-twin c A B s t r P Q a b m =
      let D = changed c A B in
      let d = past c A B in
      let E = prepare n c A B r P Q in
      let p = P.code in
      let q = E.second.code in
      let z = satisfies-split U (change_gates n c A B) m in
      let ch = change-carries K c A B t Q.code z.0 b in
      let w = and-steps d A D s t p q a ch.0 z.1 in
      record {
        carries = λ x m0 m1. w 6 (lit< tt) x m0 m1 ∙ and-law A.code D.code p q E.other (s x) (t x) m0 m1;
        even = all_append ch.1 (rows-wires (Balanced U) rows (and_places n A D) d
            (λ j l. balanced U (d + j) (get_or step_counts j 0)
            (λ x m0 m1. get_or (step_bits A.code D.code (s x) (t x) m0 m1) j false)
            (w j l) (λ x. and-count A.code D.code p q E.other (s x) (t x) j l)));
      }

  -- EQ
  constant-twin : (c v : ℕ) → v < 2 → Satisfies U (cond (eqb v 0) (Eqw n c) (Inv n c) ∷ [])
      → Twinned U (record { wire = c; code = 1 }) (λ x. eqb v 1) (cond (eqb v 0) (Eqw n c) (Inv n c) ∷ [])
  constant-twin c v l m =
      let A : Twin = record { wire = c; code = 1 } in
      on_bool (eqb v 0)
      (λ e. let z : v ≡ 0 = eqb-true v 0 e in
      let m' : Satisfies U (Eqw n c ∷ []) = rw e at m in
      rw (e, ne_eqb v 1 (λ q. omega arith)) (single A (λ x. false) (Eqw n c) refl tt (λ x m0 m1. all_head (m' x m0 m1)
      ∙ K.first x m0 m1)))
      (λ e. let z : v ≡ 0 → ⊥ = eqb-false v 0 e in
      let m' : Satisfies U (Inv n c ∷ []) = rw e at m in
      rw (e, eq-eqb v 1 (omega arith)) (single A (λ x. true) (Inv n c) refl tt (λ x m0 m1. all_head (m' x m0 m1)
      ∙ ap not (K.first x m0 m1))))

  module _ (Y : X → ℕ → Bool) where
    -- any gate, where the twins of its operands carry their bits Y
    gate-twin : (S : State) (has : ℕ → Bool) (g : Gate) → n + 5 ≤ S.next → T (operands_given has g)
        → ((w : ℕ) → T (has w) → Placed S.next (twin S w))
        → ((w : ℕ) → T (has w) → Carries U (twin S w) (λ x. Y x w)) → Satisfies U (emit n S g)
        → Twinned U (result_twin S g) (λ x. made (Y x) g) (emit n S g)
    gate-twin S has (Xor a b c) r t P h m =
        let o = both (has a) (has b) t in
        xor-twin S.next (twin S a) (twin S b) (λ x. Y x a) (λ x. Y x b) r (P a o.0) (P b o.1) (h a o.0) (h b o.1) m
    gate-twin S has (And a b c) r t P h m =
        let o = both (has a) (has b) t in
        and-twin S.next (twin S a) (twin S b) (λ x. Y x a) (λ x. Y x b) r (P a o.0) (P b o.1) (h a o.0) (h b o.1) m
    gate-twin S has (Inv a c) r t P h m =
        single (result_twin S (Inv a c)) (λ x. not (Y x a)) (Inv (twin S a).wire S.next) refl (P a t).code
        (λ x m0 m1. all_head (m x m0 m1) ∙ rw (h a t x m0 m1) (not-differs (Y x a) _))
    gate-twin S has (Eqw a c) r t P h m =
        single (result_twin S (Eqw a c)) (λ x. Y x a) (Eqw (twin S a).wire S.next) refl (P a t).code
        (λ x m0 m1. all_head (m x m0 m1) ∙ h a t x m0 m1)
    gate-twin S has (Eq v c) r t P h m = constant-twin S.next v (ltb→lt v 2 t) m

    -- the twins of all given wires carry their bits
    abbrev pub Twins : List ℕ → State → Type 0
    Twins rs S = (w : ℕ) → T (is_given n rs w) → Carries U (twin S w) (λ x. Y x w)

    pub record Walked (rs : List ℕ) (S : State) (gs : List Gate) : Type 0 where
      pub twins : Twins (results rs gs) (advance_all S gs)
      pub even : AllWires (Balanced U) (emit_all n S gs)

    pub walk-gates : (W : ℕ) (rs : List ℕ) (S : State) (gs : List Gate) → T (gates_good n W rs gs) → AllPlaced n W rs S
        → Twins rs S
        → ((x : X) → Models (Y x) gs) → Satisfies U (emit_all n S gs) → Walked rs S gs
    walk-gates W rs S [] t A L y m = record { twins = L; even = empty }
    walk-gates W rs S (g ∷ gs) t A L y m =
        let G : GoodGate n W rs g gs = good_gate t in
        let z = satisfies-split U (emit n S g) m in
        let E = gate-twin S (is_given n rs) g A.room G.operands A.placed L z.0 in
        let l : length S.twins ≡ W = A.size in
        let h : result g < W = G.high in
        let L' : Twins (result g ∷ rs) (advance S g) = λ w p. given-cases n rs (result g) w p
        (λ e x m0 m1. rw (e, twin-new S g (omega arith), all_head (y x)) (E.carries x m0 m1))
        (λ ne q x m0 m1. rw (twin-old S g w ne) (L w q x m0 m1)) in
        let R = walk-gates W (result g ∷ rs) (advance S g) gs G.rest (place-gate G A) L' (λ x. all_tail (y x)) z.1 in
        record { twins = R.twins; even = all_append E.even R.even }
