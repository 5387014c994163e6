-- The masking steps' gates: each wire's first record is there and has equal counts, and a masked bit stays one.
use mathlib.Core.Path.{◌≡◌, refl, ap, ◌∙◌, subst}
use mathlib.Core.Bool.{false, not, ◌&&◌, ◌||◌}
use mathlib.Core.List.{[], ◌∷◌}
use Prim.Native.Nat.{ℕ, ◌+◌, ◌<◌}
use native.Mathlib.Omega.{arith}
use lib.Dec.{T, eqb}
use Rattle.std.specs.Prelude.{Some}
use Rattle.netlist.specs.declared.Gate.TheVariants.{Xor, Inv, Eqw}
use Rattle.masking.specs.Mask.{is_code, third, mask_wire, rows, row_gates}
use Rattle.netlist.proofs.Tests.{both, All, empty, each, all_head, all_tail}
use Rattle.netlist.proofs.Order.{AllWires}
use Rattle.evaluate.specs.Lane.{lane, word}
use Rattle.certify_records.specs.declared.Record.{Record}
use Rattle.certify_records.specs.Record.{no_atom, over}
use Rattle.certify_records.proofs.Drawn.{Drawn, leaf_table, leaf', mask', or', made', fine, stays, ends, s1, s2, s3, s4}
use Rattle.certify_records.proofs.Drawn.{s5, s6}
use Rattle.certify_records.proofs.Placing.{real, fine-is}
use Rattle.certify_records.proofs.Tested.{sum-at, copy-at, product-at}
use Rattle.certify.proofs.Frames.{View, LitOf}
use Rattle.certify.proofs.Leads.{Seated}
use Rattle.certify.proofs.Seats.{Model, Owed}
use Rattle.certify.proofs.Bears.{Bears, Spots, spots, leaf-real, real-sized, stays-real, ends-bears}

-- a wire bears a masked bit, and is marked clean
pub record Borne (s : View) (e w : ℕ) : Type 0 where
  pub bears : Bears s e w
  pub lit : LitOf s w

-- the mask wires, and wire n + 4
pub record MaskSlots (s : View) (n : ℕ) : Type 0 where
  pub wire : (e : ℕ) → T (is_code e) → s.slot_of (mask_wire n e) ≡ Some (over (leaf_table e false false) no_atom)
  pub or : s.slot_of (n + 4) ≡ Some (over (word 64 (λ l. lane 0 l || lane 1 l)) no_atom)

module _ (s : View) where
  module _ (lo hi : ℕ) (less : lo < hi) (most : hi < no_atom) where
    abbrev pub R : Drawn → Record
    R = real lo hi less most

    pub record Drawing (c : ℕ) (z : Drawn) : Type 0 where
      pub seated : Seated s c (R z)
      pub lit : LitOf s c

    pub paid : (k a b c : ℕ) (x y : Drawn) → T (fine k x y) → s.slot_of a ≡ Some (R x) → s.slot_of b ≡ Some (R y)
        → Owed s k a b c → Drawing c (made' k x y)
    paid k a b c x y t ea eb m =
        let f = fine-is lo hi less most k x y t in
        let z = m (R x) (R y) (R (made' k x y)) ea eb f.made (real-sized lo hi less most (made' k x y) f.above) in
        record { seated = z; lit = z.even f.even }

    -- a step inside, whose record stays, and a last one
    record Inner (c : ℕ) (z : Drawn) : Type 0 where
      stands : s.slot_of c ≡ Some (R z)
      lit : LitOf s c

    inner : (k a b c : ℕ) (x y : Drawn) → T (fine k x y && stays (made' k x y)) → s.slot_of a ≡ Some (R x) → s.slot_of b
        ≡ Some (R y) → Owed s k a b c
        → Inner c (made' k x y)
    inner k a b c x y t ea eb m =
        let p = both (fine k x y) (stays (made' k x y)) t in
        let d = paid k a b c x y p.0 ea eb m in
        record { stands = stays-real lo hi less most s c (made' k x y) d.seated p.1; lit = d.lit }

    pub last : (k a b c e : ℕ) (x y : Drawn) → T (fine k x y && ends e (made' k x y)) → s.slot_of a ≡ Some (R x)
        → s.slot_of b ≡ Some (R y) → Owed s k a b c
        → Borne s e c
    last k a b c e x y t ea eb m =
        let p = both (fine k x y) (ends e (made' k x y)) t in
        let d = paid k a b c x y p.0 ea eb m in
        record { bears = ends-bears lo hi less most s c (made' k x y) d.seated e p.1; lit = d.lit }

  module _ {e f a b : ℕ} (c : T (is_code e)) (d : T (is_code f)) (n : T (not (eqb e f))) (B : Bears s e a)
      (D : Bears s f b) where
    P : Spots B.leaf.atom D.leaf.atom
    P = spots B.leaf.atom D.leaf.atom B.leaf.most D.leaf.most

    abbrev left : Drawn
    left = leaf' e B.leaf.turned P.left

    abbrev right : Drawn
    right = leaf' f D.leaf.turned P.right

    left-is : s.slot_of a ≡ Some (real P.low P.high P.less P.most left)
    left-is = B.stands ∙ ap Some (leaf-real P.low P.high P.less P.most B.leaf P.left P.is_left)

    right-is : s.slot_of b ≡ Some (real P.low P.high P.less P.most right)
    right-is = D.stands ∙ ap Some (leaf-real P.low P.high P.less P.most D.leaf P.right P.is_right)

    pub sum-borne : (w : ℕ) → Model s (Xor a b w) → Borne s (third e f) w
    sum-borne w m =
        last P.low P.high P.less P.most 1 a b w (third e f) left right
        (sum-at e f c d n B.leaf.turned D.leaf.turned P.left P.right) left-is right-is m

    -- the seven steps from wire w on
    pub product-borne : (k w : ℕ) → MaskSlots s k → All (Model s)
        (row_gates rows (a ∷ b ∷ mask_wire k e ∷ mask_wire k f ∷ (k + 4) ∷ []) w)
        → Bears s e (w + 6) × AllWires (LitOf s) (row_gates rows (a ∷ b ∷ mask_wire k e ∷ mask_wire k f ∷ (k + 4) ∷ [])
        w)
    product-borne k w K m1 =
        let lo = P.low in
        let hi = P.high in
        let t1 = product-at e f c d n B.leaf.turned D.leaf.turned P.left P.right in
        let z1 = s1 e f B.leaf.turned D.leaf.turned P.left P.right in
        let z2 = s2 e f B.leaf.turned D.leaf.turned P.left P.right in
        let z3 = s3 e f B.leaf.turned D.leaf.turned P.left P.right in
        let z4 = s4 e f B.leaf.turned D.leaf.turned P.left P.right in
        let z5 = s5 e f B.leaf.turned D.leaf.turned P.left P.right in
        let z6 = s6 e f B.leaf.turned D.leaf.turned P.left P.right in
        let u1 = both (fine 2 left right && stays z1) _ t1 in
        let u2 = both (fine 2 left (mask' f) && stays z2) _ u1.1 in
        let u3 = both (fine 1 z2 (mask' f) && stays z3) _ u2.1 in
        let u4 = both (fine 1 z1 z3 && stays z4) _ u3.1 in
        let u5 = both (fine 2 (mask' e) right && stays z5) _ u4.1 in
        let u6 = both (fine 1 z5 or' && stays z6) _ u5.1 in
        let m2 = all_tail m1 in
        let m3 = all_tail m2 in
        let m4 = all_tail m3 in
        let m5 = all_tail m4 in
        let m6 = all_tail m5 in
        let m7 = all_tail m6 in
        let q1 = inner lo hi P.less P.most 2 a b w left right u1.0 left-is right-is (all_head m1) in
        let q2 = inner lo hi P.less P.most 2 a (mask_wire k f) (w + 1) left (mask' f) u2.0 left-is (K.wire f d)
        (all_head m2) in
        let q3 = inner lo hi P.less P.most 1 (w + 1) (mask_wire k f) (w + 1 + 1) z2 (mask' f) u3.0 q2.stands
        (K.wire f d) (all_head m3) in
        let q4 = inner lo hi P.less P.most 1 w (w + 1 + 1) (w + 1 + 1 + 1) z1 z3 u4.0 q1.stands q3.stands (all_head m4)
        in
        let q5 = inner lo hi P.less P.most 2 (mask_wire k e) b (w + 1 + 1 + 1 + 1) (mask' e) right u5.0 (K.wire e c)
        right-is (all_head m5) in
        let q6 = inner lo hi P.less P.most 1 (w + 1 + 1 + 1 + 1) (k + 4) (w + 1 + 1 + 1 + 1 + 1) z5 or' u6.0 q5.stands
        K.or (all_head m6) in
        let q7 = last lo hi P.less P.most 1 (w + 1 + 1 + 1) (w + 1 + 1 + 1 + 1 + 1) (w + 1 + 1 + 1 + 1 + 1 + 1) e z4 z6
        u6.1 q4.stands q6.stands (all_head m7) in
        let r : w + 1 + 1 + 1 + 1 + 1 + 1 ≡ w + 6 = omega arith in (
          subst (Bears s e) r q7.bears,
          each q1.lit (each q2.lit (each q3.lit (each q4.lit (each q5.lit (each q6.lit (each q7.lit empty)))))),
        )

  -- a copy, and an inverse
  module _ {e a : ℕ} (c : T (is_code e)) (B : Bears s e a) (w : ℕ) where
    Q : Spots B.leaf.atom B.leaf.atom
    Q = spots B.leaf.atom B.leaf.atom B.leaf.most B.leaf.most

    abbrev whole : Drawn
    whole = leaf' e B.leaf.turned Q.left

    whole-is : s.slot_of a ≡ Some (real Q.low Q.high Q.less Q.most whole)
    whole-is = B.stands ∙ ap Some (leaf-real Q.low Q.high Q.less Q.most B.leaf Q.left Q.is_left)

    pub inverse-borne : Model s (Inv a w) → Borne s e w
    inverse-borne m =
        last Q.low Q.high Q.less Q.most 3 a a w e whole whole
        (both (fine 3 whole whole && ends e (made' 3 whole whole)) _ (copy-at e c B.leaf.turned Q.left)).0 whole-is
        whole-is m

    pub copy-borne : Model s (Eqw a w) → Borne s e w
    copy-borne m =
        last Q.low Q.high Q.less Q.most 4 a a w e whole whole
        (both (fine 3 whole whole && ends e (made' 3 whole whole)) _ (copy-at e c B.leaf.turned Q.left)).1 whole-is
        whole-is m

-- a mask wire bears the bit 0
pub mask-bears : {s : View} {n : ℕ} → MaskSlots s n → (e : ℕ) → T (is_code e) → Bears s e (mask_wire n e)
mask-bears K e c = record {
  record_there = over (leaf_table e false false) no_atom;
  leaf = record { turned = false; atom = no_atom; most = omega arith; is = refl };
  stands = K.wire e c;
}
