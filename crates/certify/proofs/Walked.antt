-- The gates that the masking steps emit: every twin bears its masked bit, and every wire is marked clean.
use Prim.Native.Nat.{ℕ, zero, suc, ◌+◌, ◌≤◌, ◌<◌}
use mathlib.Core.Path.{◌≡◌, refl, sym, subst}
use mathlib.Core.Bool.{Bool, true, false, cond}
use mathlib.Core.List.{List, [], ◌∷◌}
use native.Mathlib.Omega.{arith}
use lib.Dec.{T, eqb}
use borrow.Author.Tests.{eqb-true}
use lib.ListN.{length, get_or}
use Rattle.netlist.specs.declared.Gate.{Gate}
use Rattle.netlist.specs.declared.Gate.TheVariants.{Xor, And, Inv, Eqw, Eq}
use Rattle.netlist.specs.declared.Twin.{Twin}
use Rattle.netlist.specs.Lists.{every}
use Rattle.netlist.specs.Netlist.{result}
use Rattle.netlist.specs.Read.{operands_given, is_given, gates_good}
use Rattle.masking.specs.Mask.{is_code, is_wanted, is_public, third, after, mask_wire, changes, change_gates, changed}
use Rattle.masking.specs.Mask.{past, xor_gates, xor_twin, and_gates, and_twin, State as MaskState, twin, no_twin, emit}
use Rattle.masking.specs.Mask.{result_twin, advance, emit_all, advance_all, public_gate, public_gates, past_public}
use Rattle.masking.specs.Mask.{input_twins, out_gate, out_gates, out_code, out_codes}
use Rattle.netlist.proofs.Tests.{both, on_bool, All, empty, each, all_head, all_tail, all_split, all_append}
use Rattle.masking.proofs.CodeLaws.{third-code, third-other, third_back, after-code, after-other, wanted-code}
use Rattle.netlist.proofs.GoodGates.{GoodGate, good_gate, results, given-cases}
use Rattle.netlist.proofs.Order.{AllWires}
use Rattle.masking.proofs.OutputGates.{wanted-other}
use Rattle.masking.proofs.Placed.{Placed, prepare, AllPlaced, place-gate, twin-new, twin-old}
use Rattle.certify.proofs.Frames.{View, LitOf}
use Rattle.certify.proofs.Seats.{Model}
use Rattle.certify.proofs.Bears.{Bears}
use Rattle.certify.proofs.MaskedGates.{Borne, MaskSlots, mask-bears, sum-borne, product-borne, inverse-borne}
use Rattle.certify.proofs.MaskedGates.{copy-borne}

out-result : (n c : ℕ) (t : Twin) (want : ℕ) → c ≡ result (out_gate n c t want)
out-result n c t want = on_bool (eqb want 0) (λ z. rw z refl)
    (λ z. on_bool (eqb want t.code) (λ y. rw (z, y) refl) (λ y. rw (z, y) refl))

module _ {s : View} {n : ℕ} (K : MaskSlots s n) where
  abbrev pub Owes : List Gate → Type 0
  Owes gs = All (Model s) gs

  abbrev pub Clean : List Gate → Type 0
  Clean gs = AllWires (LitOf s) gs

  -- a twin bears a masked bit under its code
  abbrev pub Carries : Twin → Type 0
  Carries t = Bears s t.code t.wire

  record Twinned (t : Twin) (gs : List Gate) : Type 0 where
    carries : Carries t
    clean : Clean gs

  single : (t : Twin) (g : Gate) → t.wire ≡ result g → Borne s t.code t.wire → Twinned t (g ∷ [])
  single t g e b = record { carries = b.bears; clean = each (subst (LitOf s) e b.lit) empty }

  change : (c : ℕ) (A B : Twin) → T (is_code B.code) → Owes (change_gates n c A B) → Carries B → Carries (changed c A B)
      × Clean (change_gates n c A B)
  change c A B q m h =
      on_bool (changes A B)
      (λ e. let f = after B.code in
      let q' = after-code B.code q in
      let d = after-other B.code q in
      let m' : Owes (Xor B.wire (mask_wire n f) c ∷ []) = rw e at m in
      let b = sum-borne s q q' d h (mask-bears K f q') c (all_head m') in
      rw e (b.bears, each b.lit empty))
      (λ e. rw e (h, empty))

  xor-walk : (c : ℕ) (A B : Twin) → n + 5 ≤ c → Placed c A → Placed c B → Carries A → Carries B
      → Owes (xor_gates n c A B)
      → Twinned (xor_twin c A B) (xor_gates n c A B)
  xor-walk c A B r P Q a b m =
      let D = changed c A B in
      let E = prepare n c A B r P Q in
      let z = all_split (change_gates n c A B) m in
      let h = change c A B Q.code z.0 b in
      let R = single (xor_twin c A B) (Xor A.wire D.wire (past c A B)) refl
      (sum-borne s P.code E.second.code E.other a h.0 (past c A B) (all_head z.1)) in
      record { carries = R.carries; clean = all_append h.1 R.clean }

  and-walk : (c : ℕ) (A B : Twin) → n + 5 ≤ c → Placed c A → Placed c B → Carries A → Carries B
      → Owes (and_gates n c A B)
      → Twinned (and_twin c A B) (and_gates n c A B)
  and-walk c A B r P Q a b m =
      let E = prepare n c A B r P Q in
      let z = all_split (change_gates n c A B) m in
      let h = change c A B Q.code z.0 b in
      let R = product-borne s P.code E.second.code E.other a h.0 n (past c A B) K z.1 in
      record { carries = R.0; clean = all_append h.1 R.1 }

  constant-walk : (c v : ℕ) → Owes (cond (eqb v 0) (Eqw n c) (Inv n c) ∷ [])
      → Twinned (record { wire = c; code = 1 }) (cond (eqb v 0) (Eqw n c) (Inv n c) ∷ [])
  constant-walk c v m =
      let z : n + 0 ≡ n = omega arith in
      let first : Bears s 1 n = subst (Bears s 1) z (mask-bears K 1 tt) in
      let t : Twin = record { wire = c; code = 1 } in
      on_bool (eqb v 0)
      (λ e. let m' : Owes (Eqw n c ∷ []) = rw e at m in rw e
      (single t (Eqw n c) refl (copy-borne s tt first c (all_head m'))))
      (λ e. let m' : Owes (Inv n c ∷ []) = rw e at m in rw e
      (single t (Inv n c) refl (inverse-borne s tt first c (all_head m'))))

  gate-walk : (S : MaskState) (has : ℕ → Bool) (g : Gate) → n + 5 ≤ S.next → T (operands_given has g)
      → ((w : ℕ) → T (has w) → Placed S.next (twin S w)) → ((w : ℕ) → T (has w) → Carries (twin S w))
      → Owes (emit n S g)
      → Twinned (result_twin S g) (emit n S g)
  gate-walk S has (Xor a b c) r t P h m =
      let o = both (has a) (has b) t in xor-walk S.next (twin S a) (twin S b) r (P a o.0) (P b o.1) (h a o.0) (h b o.1)
      m
  gate-walk S has (And a b c) r t P h m =
      let o = both (has a) (has b) t in and-walk S.next (twin S a) (twin S b) r (P a o.0) (P b o.1) (h a o.0) (h b o.1)
      m
  gate-walk S has (Inv a c) r t P h m =
      single (result_twin S (Inv a c)) (Inv (twin S a).wire S.next) refl
      (inverse-borne s (P a t).code (h a t) S.next (all_head m))
  gate-walk S has (Eqw a c) r t P h m =
      single (result_twin S (Eqw a c)) (Eqw (twin S a).wire S.next) refl
      (copy-borne s (P a t).code (h a t) S.next (all_head m))
  gate-walk S has (Eq v c) r t P h m = constant-walk S.next v m

  pub record Walked (rs : List ℕ) (S : MaskState) (gs : List Gate) : Type 0 where
    pub twins : (w : ℕ) → T (is_given n (results rs gs) w) → Carries (twin (advance_all S gs) w)
    pub clean : Clean (emit_all n S gs)

  pub walk-gates : (W : ℕ) (rs : List ℕ) (S : MaskState) (gs : List Gate) → T (gates_good n W rs gs)
      → AllPlaced n W rs S
      → ((w : ℕ) → T (is_given n rs w) → Carries (twin S w)) → Owes (emit_all n S gs) → Walked rs S gs
  walk-gates W rs S [] t A L m = record { twins = L; clean = empty }
  walk-gates W rs S (g ∷ gs) t A L m =
      let G : GoodGate n W rs g gs = good_gate t in
      let z = all_split (emit n S g) m in
      let E = gate-walk S (is_given n rs) g A.room G.operands A.placed L z.0 in
      let l : length S.twins ≡ W = A.size in
      let h : result g < W = G.high in
      let L' : (w : ℕ) → T (is_given n (result g ∷ rs) w) → Carries (twin (advance S g) w)
      = λ w p. given-cases n rs (result g) w p
      (λ e. rw (e, twin-new S g (omega arith)) E.carries)
      (λ ne q. rw (twin-old S g w ne) (L w q)) in
      let R = walk-gates W (result g ∷ rs) (advance S g) gs G.rest (place-gate G A) L' z.1 in
      record { twins = R.twins; clean = all_append E.clean R.clean }

  -- the inputs: what arrives, and what stands at a public one's gate
  pub record Inputs (c k : ℕ) (es : List ℕ) : Type 0 where
    pub carries : (w : ℕ) → w < length es → Carries (get_or (input_twins c k es) w no_twin)
    pub clean : Clean (public_gates n c k es)

  pub walk-inputs : (c k : ℕ) (es : List ℕ) → ((w : ℕ) → w < length es → is_public (get_or es w 0) ≡ false
      → Bears s (get_or es w 0) (k + w))
      → ((w : ℕ) → w < length es → is_public (get_or es w 0) ≡ true → (d : ℕ) → Model s (Xor (k + w) n d) → Borne s 1 d)
      → Owes (public_gates n c k es) → Inputs c k es
  walk-inputs c k [] f g m = record { carries = λ w b. absurd (omega arith); clean = empty }
  walk-inputs c k (e ∷ es) f g m =
      let z : k + 0 ≡ k = omega arith in
      let sp = all_split (public_gate n c k e) m in
      let next : (w : ℕ) → k + suc w ≡ k + 1 + w = λ w. omega arith in
      let R = walk-inputs (past_public c e) (k + 1) es
      (λ w b p. subst (Bears s (get_or es w 0)) (next w) (f (suc w) (omega arith) p))
      (λ w b p d q. g (suc w) (omega arith) p d (subst (λ (v : ℕ). Model s (Xor v n d)) (sym-next w) q)) sp.1 in
      on_bool (is_public e)
      (λ p. let q : Owes (Xor k n c ∷ []) = rw p at sp.0 in
      let b = g 0 (omega arith) p c (subst (λ (v : ℕ). Model s (Xor v n c)) (sym-zero) (all_head q)) in
      let l : Clean (public_gate n c k e) = rw p (each b.lit empty) in
      record { carries = later (rw p b.bears) R.carries; clean = all_append l R.clean })
      (λ p. let b : Bears s e k = subst (Bears s e) z (f 0 (omega arith) p) in
      let l : Clean (public_gate n c k e) = rw p empty in
      record { carries = later (rw p b) R.carries; clean = all_append l R.clean })
    where
      sym-zero : k ≡ k + 0
      sym-zero = omega arith

      sym-next : (w : ℕ) → k + 1 + w ≡ k + suc w
      sym-next w = omega arith

      later : Carries (get_or (input_twins c k (e ∷ es)) 0 no_twin)
          → ((w : ℕ) → w < length es → Carries (get_or (input_twins (past_public c e) (k + 1) es) w no_twin))
          → (w : ℕ) → w < suc (length es) → Carries (get_or (input_twins c k (e ∷ es)) w no_twin)
      later a r zero b = a
      later a r (suc w) b = r w (omega arith)

  -- the outputs
  out-borne : {k : ℕ} (c : ℕ) (t : Twin) (want : ℕ) → Placed k t → T (is_wanted want) → Carries t
      → Model s (out_gate n c t want)
      → Borne s (out_code t.code want) (result (out_gate n c t want))
  out-borne c t want P q h m =
      on_bool (eqb want 0)
      (λ z. let g : Model s (Eqw t.wire c) = rw z at m in rw z (copy-borne s P.code h c g))
      (λ z. on_bool (eqb want t.code)
      (λ y. let g : Model s (Eqw t.wire c) = rw (z, y) at m in
      let e : t.code ≡ want = sym (eqb-true want t.code y) in
      rw (z, y) (subst (λ (e : ℕ). Borne s e c) e (copy-borne s P.code h c g)))
      (λ y. let d = wanted-code want q z in
      let o = wanted-other t.code want y in
      let f = third t.code want in
      let g : Model s (Xor t.wire (mask_wire n f) c) = rw (z, y) at m in
      let i = third-code t.code want P.code d o in
      let e : third t.code f ≡ want = third_back t.code want P.code d o in
      rw (z, y) (subst (λ (e : ℕ). Borne s e c) e (sum-borne s P.code i (third-other t.code want P.code d o) h
      (mask-bears K f i) c g))))

  -- what they bear, and that all are clean
  pub record Outs (c : ℕ) (ts : List Twin) (ws : List ℕ) : Type 0 where
    pub bears : (i : ℕ) → i < length ts → Bears s (get_or (out_codes ts ws) i 0) (c + i)
    pub clean : Clean (out_gates n c ts ws)

  pub walk-outs : {k : ℕ} (c : ℕ) (ts : List Twin) (ws : List ℕ) → length ws ≡ length ts → T (every is_wanted ws)
      → All (Placed k) ts
      → ((i : ℕ) → i < length ts → Carries (get_or ts i no_twin)) → Owes (out_gates n c ts ws) → Outs c ts ws
  walk-outs c [] ws l t P h m = record { bears = λ i b. absurd (omega arith); clean = empty }
  walk-outs c (a ∷ ts) [] l t P h m = absurd (omega arith)
  walk-outs c (a ∷ ts) (w ∷ ws) l t P h m =
      let q = both (is_wanted w) (every is_wanted ws) t in
      let b = out-borne c a w (all_head P) q.0 (h 0 (omega arith)) (all_head m) in
      let R = walk-outs (c + 1) ts ws (omega arith) q.1 (all_tail P) (λ i b. h (suc i) (omega arith)) (all_tail m) in
      record {
        bears = later (subst (Bears s (out_code a.code w)) (sym (out-result n c a w)) b.bears) R.bears;
        clean = each b.lit R.clean;
      }
    where
      later : Bears s (out_code a.code w) c → ((i : ℕ) → i < length ts → Bears s (get_or (out_codes ts ws) i 0)
          (c + 1 + i))
          → (i : ℕ) → i < suc (length ts) → Bears s (get_or (out_codes (a ∷ ts) (w ∷ ws)) i 0) (c + i)
      later g r zero b = let z : c + 0 ≡ c = omega arith in rw z g
      later g r (suc i) b = let z : c + suc i ≡ c + 1 + i = omega arith in rw z (r i (omega arith))
