-- The table of given wires as lines are read.
use Prim.Native.Nat.{ℕ, ◌+◌, ◌-◌, ◌<◌, ◌≤◌}
use mathlib.Core.Path.{◌≡◌, refl, sym, ap, ap₂, ◌∙◌}
use mathlib.Core.Bool.{Bool, true, false, ◌&&◌, ◌||◌, not}
use mathlib.Core.List.{List, [], ◌∷◌, ◌++◌}
use native.Mathlib.Omega.{arith}
use lib.Dec.{eqb, leb, ltb}
use lib.ListN.{length, take, drop, get_or, set, replicate, length-set, length-drop, length-append, length-replicate}
use lib.ListN.{get_or-eq_default, get_or-replicate, get_or-append}
use Rattle.std.proofs.lemmas.List.{get_or-append_right, get_or-drop}
use lib.Seq.{length-take-le, get_or-set_same, get_or-set_other}
use borrow.Author.Tests.{eqb-true, eqb-false, leb-true, le-ltb, ltb-true, ltb-false}
use Rattle.netlist.specs.declared.Gate.{Gate}
use Rattle.netlist.specs.declared.Gate.TheVariants.{Xor, And, Inv, Eqw, Eq}
use Rattle.netlist.specs.Lists.{member}
use Rattle.netlist.specs.Netlist.{result}
use Rattle.netlist.specs.Read.{operands_given, is_given, result_good}
use Rattle.netlist.proofs.Tests.{clash, All, empty, each, on_bool, both_true}
use Rattle.reader.specs.Marks.{marked, Marks}
use Rattle.gates.specs.Numbers.{Names}

-- question 8 asked of the table
pub marks-operands : {table rs : List ℕ} {n W : ℕ} → Marks table n W rs → (g : Gate) → operands_given (marked table) g
    ≡ operands_given (is_given n rs) g
marks-operands m (Xor a b c) = ap₂ ◌&&◌ (m.each a) (m.each b)
marks-operands m (And a b c) = ap₂ ◌&&◌ (m.each a) (m.each b)
marks-operands m (Inv a c) = m.each a
marks-operands m (Eqw a c) = m.each a
marks-operands m (Eq v c) = refl

-- question 9 asked of the table
pub marks-result : {table rs : List ℕ} {n W : ℕ} → Marks table n W rs → (g : Gate)
    → (leb n (result g) && ltb (result g) W && not (marked table (result g))) ≡ result_good n W rs g
marks-result {table} {rs} {n} {W} m g = go (leb n (result g)) refl
  where
    go : (b : Bool) → leb n (result g) ≡ b
        → (b && ltb (result g) W && not (marked table (result g)))
        ≡ (b && ltb (result g) W && not (member (result g) rs))
    go true e =
        let k : ltb (result g) n ≡ false = le-ltb (result g) n (leb-true n (result g) e) in
        let j : marked table (result g) ≡ member (result g) rs = m.each (result g) ∙ rw k in
        ap (λ (t : Bool). true && ltb (result g) W && not t) j
    go false e = refl

-- a marked wire lies below W
member_below : {W : ℕ} {rs : List ℕ} (x : ℕ) → All (λ r. r < W) rs → member x rs ≡ true → x < W
member_below x empty e = clash (cc)
member_below {W} x (each {x = r} {xs = rs} p ps) e = on_bool (eqb x r)
    (λ h. let q : x ≡ r = eqb-true x r h in omega arith)
    (λ h. member_below x ps (rw h at e))

marked-below : {table rs : List ℕ} {n W : ℕ} → Marks table n W rs → (x : ℕ) → marked table x ≡ true → x < W
marked-below {table} {rs} {n} {W} m x e = on_bool (ltb x n)
    (λ h. let l = ltb-true x n h in omega (arith, m.inputs))
    (λ h. let k : is_given n rs x ≡ true = sym (m.each x) ∙ e in member_below x m.below (rw h at k))

-- a free result lies below W
pub free-below : (n c W : ℕ) (x : Bool) → (leb n c && ltb c W && x) ≡ true → c < W
free-below n c W x h = ltb-true c W (both_true (leb n c) (ltb c W) (both_true (leb n c && ltb c W) x h).0).1

-- a gate that questions 8 and 9 admit names wires below W
pub marks-names : {table rs : List ℕ} {n W : ℕ} → Marks table n W rs → (g : Gate) → operands_given (marked table) g
    ≡ true → result g < W → Names W g
marks-names {table} m (Xor a b c) o l = let p = both_true (marked table a) (marked table b) o
    in (marked-below m a p.0, marked-below m b p.1, l)
marks-names {table} m (And a b c) o l = let p = both_true (marked table a) (marked table b) o
    in (marked-below m a p.0, marked-below m b p.1, l)
marks-names m (Inv a c) o l = (marked-below m a o, l)
marks-names m (Eqw a c) o l = (marked-below m a o, l)
marks-names m (Eq v c) o l = (ltb-true v 2 o, l)

marked-set : (table : List ℕ) (c x : ℕ) → c < length table → marked (set table c 1) x ≡ (eqb x c || marked table x)
unfolding marked
marked-set table c x h = on_bool (eqb x c)
    (λ e. let q : x ≡ c = eqb-true x c e in
    let p : get_or (set table c 1) x 0 ≡ 1 = ap (λ (y : ℕ). get_or (set table c 1) y 0) q ∙ get_or-set_same table c 1 0
    h in
    rw (e, p))
    (λ e. rw (e, get_or-set_other table c x 1 0 (eqb-false x c e)))

swap : (a b c : Bool) → (a || (b || c)) ≡ (b || (a || c))
swap true true c = refl
swap true false c = refl
swap false b c = refl

-- one result more
pub marks-on : {table rs : List ℕ} {n W : ℕ} (c : ℕ) → c < W → Marks table n W rs → Marks (set table c 1) n W (c ∷ rs)
marks-on {table} {rs} {n} {W} c h m = record {
  each = λ x. marked-set table c x (omega (arith, m.room)) ∙ ap (λ (b : Bool). eqb x c || b) (m.each x)
      ∙ swap (eqb x c) (ltb x n) (member x rs);
  inputs = m.inputs;
  below = each h m.below;
  room = rw length-set m.room;
}

-- the n inputs in a table that marks nothing
pub inputs-marked : {table u : List ℕ} {n W : ℕ} → n ≤ W → W ≤ length table → table ≡ replicate (length table) 0 → u
    ≡ replicate (length (take n table)) 1
    → Marks (u ++ drop n table) n W []
unfolding marked
inputs-marked {table} {u} {n} {W} l h e f = record {
  each =
      λ x. on_bool (ltb x n)
      (λ t. let k = ltb-true x n t in rw (t, get_or-append u (drop n table) 0 x (omega (arith, size)) ∙ in_front x k))
      (λ t. let k = ltb-false x n t in rw (
        t,
        get_or-append_right u (drop n table) n x 0 size k
            ∙ get_or-drop n table (x - n) 0 ∙ following (n + (x - n)),
      ));
  inputs = l;
  below = empty;
  room = omega (arith, size, length-append u (drop n table), length-drop n table);
}
  where
    size : length u ≡ n
    size = ap length f ∙ length-replicate _ _ ∙ length-take-le n table (omega arith)

    in_front : (x : ℕ) → x < n → get_or u x 0 ≡ 1
    in_front x k = ap (λ s. get_or s x 0) f ∙ get_or-replicate (length (take n table)) x 1 0
        (omega (arith, length-take-le n table (omega arith)))

    following : (x : ℕ) → get_or table x 0 ≡ 0
    following x =
        ap (λ s. get_or s x 0) e
        ∙ on_bool (ltb x (length table)) (λ t. get_or-replicate (length table) x 0 0 (ltb-true x (length table) t))
        (λ t. let g : length table ≤ x = ltb-false x (length table) t in get_or-eq_default {A = ℕ}
        (replicate (length table) 0) 0 (rw length-replicate g))
