-- A wire whose first record is that of a masked bit, and gates that keep it so.
use mathlib.Core.Path.{◌≡◌, refl, sym, ap, ◌∙◌}
use mathlib.Core.Bool.{Bool, true, false, cond, not, ◌&&◌}
use Prim.Native.Nat.{ℕ, zero, suc, ◌≤◌, ◌<◌}
use native.Mathlib.Omega.{arith}
use lib.Dec.{T, eqb, ltb, leb, eqb→eq}
use borrow.Author.Tests.{eqb-true, eqb-false, ltb-true, ltb-false, ne_eqb}
use Rattle.std.specs.Prelude.{Option, Some, None}
use Rattle.netlist.proofs.Tests.{both, either, on_bool, is_true, true-T}
use Rattle.certify_records.specs.declared.Record.{Record}
use Rattle.certify_records.specs.Record.{no_atom, over}
use Rattle.certify_records.specs.Made.{chosen_of}
use Rattle.certify_records.proofs.Drawn.{Spot, lower, higher, nowhere, same_spot, is_nowhere, Drawn, few', leaf_table}
use Rattle.certify_records.proofs.Drawn.{leaf', none_chosen, stays, chosen_leaf, few_leaf, ends}
use Rattle.certify_records.proofs.Placing.{at, nowhere-at, real}
use Rattle.certify.specs.Store.{atoms_of}
use Rattle.certify.proofs.Slots.{Sized}
use Rattle.certify.proofs.Frames.{View}
use Rattle.certify.proofs.Leads.{Seated}

-- the record of a masked bit under code e: whether it is turned, and its atom or none
pub record Leaf (e : ℕ) (r : Record) : Type 0 where
  pub turned : Bool
  pub atom : ℕ
  pub most : atom ≤ no_atom
  pub is : r ≡ over (leaf_table e turned (not (eqb atom no_atom))) atom

-- a wire's first record is one
pub record Bears (s : View) (e w : ℕ) : Type 0 where
  pub record_there : Record
  pub leaf : Leaf e record_there
  pub stands : s.slot_of w ≡ Some record_there

-- two atoms or none by two places
pub record Spots (a b : ℕ) : Type 0 where
  pub low : ℕ
  pub high : ℕ
  pub less : low < high
  pub most : high < no_atom
  pub left : Spot
  pub right : Spot
  pub is_left : at low high less most left ≡ a
  pub is_right : at low high less most right ≡ b

one-spot : (a : ℕ) → a < no_atom → Spots a a
one-spot zero h = record {
  low = 0;
  high = 1;
  less = omega arith;
  most = omega arith;
  left = lower;
  right
      = lower;
  is_left = refl;
  is_right = refl;
}
one-spot (suc a) h =
    record {
      low = 0;
      high = suc a;
      less = omega arith;
      most = h;
      left = higher;
      right = higher;
      is_left
          = refl;
      is_right = refl;
    }

pub spots : (a b : ℕ) → a ≤ no_atom → b ≤ no_atom → Spots a b
spots a b g h =
    on_bool (eqb a no_atom)
    (λ e. let ea = eqb-true a no_atom e in
    on_bool (eqb b no_atom)
    (λ f. let eb = eqb-true b no_atom f in record {
      low = 0;
      high = 1;
      less = omega arith;
      most = omega arith;
      left = nowhere;
      right = nowhere;
      is_left = sym ea;
      is_right = sym eb;
    })
    (λ f. let nb = eqb-false b no_atom f in
    let p = one-spot b (omega arith) in
    record {
      low = p.low;
      high = p.high;
      less = p.less;
      most = p.most;
      left = nowhere;
      right = p.right;
      is_left
          = sym ea;
      is_right = p.is_right;
    }))
    (λ e. let na = eqb-false a no_atom e in
    on_bool (eqb b no_atom)
    (λ f. let eb = eqb-true b no_atom f in
    let p = one-spot a (omega arith) in
    record {
      low = p.low;
      high = p.high;
      less = p.less;
      most = p.most;
      left = p.left;
      right = nowhere;
      is_left
          = p.is_left;
      is_right = sym eb;
    })
    (λ f. let nb = eqb-false b no_atom f in
    on_bool (ltb a b)
    (λ l. let q = ltb-true a b l in record {
      low = a;
      high = b;
      less = q;
      most = omega arith;
      left = lower;
      right = higher;
      is_left = refl;
      is_right = refl;
    })
    (λ l. let q = ltb-false a b l in
    on_bool (ltb b a)
    (λ k. let m = ltb-true b a k in record {
      low = b;
      high = a;
      less = m;
      most = omega arith;
      left = higher;
      right = lower;
      is_left = refl;
      is_right = refl;
    })
    (λ k. let m = ltb-false b a k in
    let z : a ≡ b = omega arith in
    let p = one-spot a (omega arith) in
    record {
      low = p.low;
      high = p.high;
      less = p.less;
      most = p.most;
      left = p.left;
      right = p.right;
      is_left
          = p.is_left;
      is_right = p.is_right ∙ z;
    }))))

module _ (lo hi : ℕ) (less : lo < hi) (most : hi < no_atom) where
  abbrev R : Drawn → Record
  R = real lo hi less most

  abbrev A : Spot → ℕ
  A = at lo hi less most

  at-most : (x : Spot) → A x ≤ no_atom
  at-most lower = omega arith
  at-most higher = omega arith
  at-most nowhere = omega arith

  -- a leaf as it is drawn
  pub leaf-real : {e : ℕ} {r : Record} (L : Leaf e r) (x : Spot) → A x ≡ L.atom → r ≡ R (leaf' e L.turned x)
  leaf-real {e} L x p =
      let n : not (is_nowhere x) ≡ not (eqb L.atom no_atom) =
      ap not (sym (nowhere-at lo hi less most x) ∙ ap (λ (a : ℕ). eqb a no_atom) p) in
      L.is ∙ (λ i. over (leaf_table e L.turned (sym n i)) (sym p i))

  above-none : (x : Spot) → T (not (same_spot x lower)) → A x ≡ 0 → ⊥
  above-none lower t e = absurd t
  above-none higher t e = omega arith
  above-none nowhere t e = omega arith

  pub real-sized : (z : Drawn) → T (not (same_spot z.second lower)) → Sized (R z)
  real-sized z t =
      let a = at-most z.first in
      let b = at-most z.second in
      let c = at-most z.third in
      let d = at-most z.fourth in
      record {
        first = omega arith;
        second = omega arith;
        third = omega arith;
        fourth = omega arith;
        some = λ e. above-none z.second t (omega arith);
      }

  atoms-few : (z : Drawn) → leb (atoms_of (R z)) 1 ≡ few' z
  atoms-few z =
      (λ i. leb (cond (nowhere-at lo hi less most z.fourth i) (cond (nowhere-at lo hi less most z.third i)
      (cond (nowhere-at lo hi less most z.second i) (cond (nowhere-at lo hi less most z.first i) 0 1) 2) 3) 4) 1)
      ∙ go (is_nowhere z.fourth) (is_nowhere z.third) (is_nowhere z.second) (is_nowhere z.first)
    where
      go : (a b c d : Bool) → leb (cond a (cond b (cond c (cond d 0 1) 2) 3) 4) 1 ≡ a && (b && c)
      go false b c d = refl
      go true false c d = refl
      go true true false d = refl
      go true true true true = refl
      go true true true false = refl

  none-is : (o : Option (ℕ × ℕ)) → T (none_chosen o) → o ≡ None
  none-is None t = refl
  none-is (Some p) t = absurd t

  pub nowhere-is : (x : Spot) → T (is_nowhere x) → x ≡ nowhere
  nowhere-is lower t = absurd t
  nowhere-is higher t = absurd t
  nowhere-is nowhere t = refl

  -- what a wire's first record is, where that of its gate is drawn
  module _ (s : View) (w : ℕ) (z : Drawn) (S : Seated s w (R z)) where
    pub stays-real : T (stays z) → s.slot_of w ≡ Some (R z)
    stays-real t =
        either (few' z) (none_chosen (chosen_of z.table)) (λ f. S.few (atoms-few z ∙ is_true (few' z) f))
        (λ f. S.whole (none-is (chosen_of z.table) f)) t

    few-bears : (e : ℕ) → few' z ≡ true → T (few_leaf e z) → Bears s e w
    few-bears e f t =
        let p = both (is_nowhere z.fourth) (is_nowhere z.third && is_nowhere z.second) (true-T _ f) in
        let q = both (is_nowhere z.third) (is_nowhere z.second) p.1 in
        let a = nowhere-at lo hi less most z.first in
        let leaf : (b : Bool) → T (eqb z.table (leaf_table e b (not (is_nowhere z.first)))) → Leaf e (R z)
        = λ b u. record {
          turned = b;
          atom = A z.first;
          most = at-most z.first;
          is = λ i. record {
            table = (eqb→eq z.table (leaf_table e b (not (is_nowhere z.first))) u
                ∙ ap (λ (n : Bool). leaf_table e b (not n)) (sym a)) i;
            first = A z.first;
            second = A (nowhere-is z.second q.1 i);
            third = A (nowhere-is z.third q.0 i);
            fourth = A (nowhere-is z.fourth p.0 i);
          };
        } in
        record {
          record_there = R z;
          leaf = either (eqb z.table (leaf_table e false (not (is_nowhere z.first))))
              (eqb z.table (leaf_table e true (not (is_nowhere z.first)))) (leaf false)
              (leaf true) t;
          stands = S.few (atoms-few z ∙ f);
        }

    chosen-bears : (e : ℕ) → few' z ≡ false → (o : Option (ℕ × ℕ)) → chosen_of z.table ≡ o → T (chosen_leaf e o)
        → Bears s e w
    chosen-bears e f None c t = absurd t
    chosen-bears e f (Some (m, u)) c t =
        let l = S.leaf (atoms-few z ∙ f) m u c in
        let n : not (eqb l.0 no_atom) ≡ true = ap not (ne_eqb l.0 no_atom (λ q. let h = l.1.0 in omega arith)) in
        let leaf : (b : Bool) → T (eqb u (leaf_table e b true)) → Leaf e (over u l.0) = λ b q. record {
          turned = b;
          atom = l.0;
          most = let h = l.1.0 in omega arith;
          is = λ i. over ((eqb→eq u (leaf_table e b true) q ∙ ap (leaf_table e b) (sym n)) i) l.0;
        } in
        record {
          record_there = over u l.0;
          leaf = either (eqb u (leaf_table e false true)) (eqb u (leaf_table e true true)) (leaf false) (leaf true) t;
          stands = l.1.1;
        }

    pub ends-bears : (e : ℕ) → T (ends e z) → Bears s e w
    ends-bears e t =
        on_bool (few' z)
        (λ f. few-bears e f (rw f at t))
        (λ f. chosen-bears e f (chosen_of z.table) refl (rw f at t))
