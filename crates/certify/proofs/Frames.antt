-- What a step leaves as it was: the first records of other wires, and that wires are marked clean.
use mathlib.Core.Path.{◌≡◌, refl, sym, ◌∙◌}
use mathlib.Core.Bool.{Bool, true, false, cond}
use mathlib.Core.List.{List, [], ◌∷◌}
use mathlib.Core.Logic.{◌≢◌}
use Prim.Native.Nat.{ℕ, zero, suc, ◌+◌, ◌-◌, ◌*◌}
use native.Mathlib.Omega.{arith}
use lib.Bits.{bit_and}
use lib.Dec.{eqb, leb}
use lib.ListN.{length, get_or, set, length-set}
use Rattle.std.specs.Prelude.{Option, Some, None}
use Rattle.netlist.proofs.Tests.{clash}
use Rattle.evaluate.specs.Lane.{lane}
use Rattle.gates.specs.declared.Parts.{Parts}
use Rattle.certify_records.specs.declared.Record.{Record}
use Rattle.certify_records.specs.Made.{combined}
use Rattle.certify.specs.Kept.{put_record, record_if, clean_by, public_by}
use Rattle.certify.proofs.Slots.{length-put, put-other, length-kept, kept-first}
use Rattle.certify.specs.Step.{State, state, shown_clean, shown_public, added, added_if, paired_on, paired, row_more}
use Rattle.certify.specs.Step.{crossed_on, crossed, pairs_more, all_pairs, leafed, led_on, led_if, first_with, first_on}
use Rattle.certify.specs.Step.{first_of, leaf_put, settled_on, settled_by, settled, is_leaf, leaves_rest, leaves_more}
use Rattle.certify.specs.Step.{leaves_of, step_of}

-- the first record of a wire, and whether it is marked clean
abbrev pub slot : State → ℕ → Option Record
slot s w = record_if s.records (5 * w)

abbrev pub Lit : List ℕ → ℕ → Type 0
Lit m w = lane 0 (get_or m w 0) ≡ true

-- the first record of each wire, and whether it is marked clean
pub record View : Type 0 where
  pub slot_of : ℕ → Option Record
  pub marked : ℕ → Bool

abbrev pub view : State → View
view s = record { slot_of = slot s; marked = λ w. lane 0 (get_or s.marks w 0) }

abbrev pub LitOf : View → ℕ → Type 0
LitOf v w = v.marked w ≡ true

-- where P holds of a wire its first record stays
pub record Framed (P : ℕ → Type 0) (s u : State) : Type 0 where
  pub records : length u.records ≡ length s.records
  pub marks : length u.marks ≡ length s.marks
  pub slots : (v : ℕ) → P v → slot u v ≡ slot s v
  pub lit : (v : ℕ) → Lit s.marks v → Lit u.marks v

module _ {P : ℕ → Type 0} where
  pub framed-same : (s : State) → Framed P s s
  framed-same s = record { records = refl; marks = refl; slots = λ v p. refl; lit = λ v l. l }

  pub framed-more : {s t u : State} → Framed P s t → Framed P t u → Framed P s u
  framed-more F G = record {
    records = G.records ∙ F.records;
    marks = G.marks ∙ F.marks;
    slots = λ v p. G.slots v p ∙ F.slots v p;
    lit = λ v l. G.lit v (F.lit v l);
  }

  -- only hints differ
  pub framed-hints : (s : State) (h : List ℕ) → Framed P s (state s.records s.marks h)
  framed-hints s h = record { records = refl; marks = refl; slots = λ v p. refl; lit = λ v l. l }

pub framed-where : {P Q : ℕ → Type 0} {s u : State} → ((v : ℕ) → Q v → P v) → Framed P s u → Framed Q s u
framed-where f F = record { records = F.records; marks = F.marks; slots = λ v q. F.slots v (f v q); lit = F.lit }

-- marks that are set
pub lit-set : (m : List ℕ) (w x : ℕ) → lane 0 x ≡ true → (v : ℕ) → Lit m v → Lit (set m w x) v
lit-set [] w x e v l = l
lit-set (y ∷ ys) zero x e zero l = e
lit-set (y ∷ ys) zero x e (suc v) l = l
lit-set (y ∷ ys) (suc w) x e zero l = l
lit-set (y ∷ ys) (suc w) x e (suc v) l = lit-set ys w x e v l

-- a list of marks that keeps its length and what is lit
pub record Grown (m n : List ℕ) : Type 0 where
  pub long : length n ≡ length m
  pub lit : (v : ℕ) → Lit m v → Lit n v

pub grown-if : (b : Bool) {m n : List ℕ} → Grown m n → Grown m (cond b n m)
grown-if true G = G
grown-if false G = record { long = refl; lit = λ v l. l }

pub grown-clean : (m : List ℕ) (w : ℕ) (r : Record) → Grown m (shown_clean m w r)
grown-clean m w r = grown-if (clean_by m r) record { long = length-set m w 1; lit = lit-set m w 1 refl }

pub grown-public : (m : List ℕ) (w : ℕ) (r : Record) → Grown m (shown_public m w r)
grown-public m w r = grown-if (public_by m r) record { long = length-set m w 3; lit = lit-set m w 3 refl }

module _ {P : ℕ → Type 0} where
  -- further records
  framed-added : (s : State) (w : ℕ) (r : Record) → Framed P s (added s w r)
  framed-added s w r =
      let G = grown-if (eqb (bit_and (get_or s.marks w 0) 1) 0) (grown-clean s.marks w r) in
      record {
        records = length-kept w s.records r;
        marks = G.long;
        slots = λ v p. kept-first w s.records r v;
        lit
            = G.lit;
      }

  framed-added_if : (s : State) (w : ℕ) (o : Option Record) → Framed P s (added_if s w o)
  framed-added_if s w None = framed-same s
  framed-added_if s w (Some r) = framed-added s w r

  framed-paired : (s : State) (g : Parts) (x : Record) (o : Option Record) → Framed P s (paired_on s g x o)
  framed-paired s g x None = framed-same s
  framed-paired s g x (Some y) = framed-added_if s g.result (combined g.kind x y)

  framed-row : (n j : ℕ) (g : Parts) (x : Record) (s : State) → Framed P s (row_more n j g x s)
  framed-row zero j g x s = framed-same s
  framed-row (suc n) j g x s =
      framed-more (framed-paired s g x (record_if s.records (5 * g.right + j)))
      (framed-row n (j + 1) g x (paired s g x j))

  framed-if : (b : Bool) {s t u : State} → Framed P s t → Framed P s u → Framed P s (cond b t u)
  framed-if true F G = F
  framed-if false F G = G

  framed-crossed : (s : State) (g : Parts) (i from : ℕ) (o : Option Record) → Framed P s (crossed_on s g i from o)
  framed-crossed s g i from None = framed-same s
  framed-crossed s g i from (Some x) =
      framed-if (eqb g.left g.right)
      (framed-if (leb from i) (framed-paired s g x (record_if s.records (5 * g.right + i))) (framed-same s))
      (framed-row (5 - from) from g x s)

  framed-pairs : (n i : ℕ) (g : Parts) (s : State) → Framed P s (pairs_more n i g s)
  framed-pairs zero i g s = framed-same s
  framed-pairs (suc n) i g s =
      framed-more (framed-crossed s g i 0 (record_if s.records (5 * g.left + i)))
      (framed-pairs n (i + 1) g (crossed s g i 0))

  pub framed-all : (s : State) (g : Parts) → Framed P s (all_pairs s g)
  framed-all s g = framed-more (framed-crossed s g 0 1 (record_if s.records (5 * g.left + 0)))
      (framed-pairs 4 1 g (crossed s g 0 1))

-- a record that is put as the first of wire w
pub framed-put : (w : ℕ) (s : State) (r : Record) (m h : List ℕ) → Grown s.marks m
    → Framed (λ v. v ≢ w) s (state (put_record s.records (5 * w) r) m h)
framed-put w s r m h G = record {
  records = length-put s.records (5 * w) r;
  marks = G.long;
  slots = λ v n. put-other s.records (5 * w) r (5 * v) (λ e. n (omega arith));
  lit = G.lit;
}

-- leaves of wire w, where its own first record need not stay if none stands
module _ (P : ℕ → Type 0) (w : ℕ) where
  abbrev pub Free : State → Type 0
  Free s = slot s w ≡ None → (v : ℕ) → P v → v ≢ w

  framed-leaf : (s : State) (l : Record) (m h : List ℕ) → Grown s.marks m → (o : Option Record) → slot s w ≡ o → Free s
      → Framed P s (state (leaf_put s.records w l o) m h)
  framed-leaf s l m h G None e f = framed-where (f e) (framed-put w s l m h G)
  framed-leaf s l m h G (Some r) e f = record {
    records = length-put s.records (5 * w + 4) l;
    marks = G.long;
    slots = λ v p. put-other s.records (5 * w + 4) l (5 * v) (λ z. omega arith);
    lit = G.lit;
  }

  -- a turn: where it goes on, only hints differ
  pub record Turned (s : State) (p : State × Bool) : Type 0 where
    pub framed : Framed P s p.0
    pub same : p.1 ≡ false → slot p.0 w ≡ slot s w

  turned-on : (s : State) (r : Record) (p : Option Record × List ℕ) → Free s → Turned s (settled_on s w r p)
  turned-on s r (None, h) f = record { framed = framed-hints s h; same = λ e. refl }
  turned-on s r (Some l, h) f = record {
    framed = framed-leaf s l (shown_public s.marks w r) h (grown-public s.marks w r) (slot s w) refl f;
    same = λ e. clash (cc);
  }

  turned-by : (s : State) (k : ℕ) (o : Option Record) → Free s → Turned s (settled_by s w k o)
  turned-by s k None f = record { framed = framed-same s; same = λ e. refl }
  turned-by s k (Some r) f = turned-on s r (leafed s.records s.hints w k r) f

  framed-rest : (g : State → State) {s : State} (p : State × Bool) → Turned s p
      → ((u : State) → slot u w ≡ slot s w → Framed P u (g u))
      → Framed P s (leaves_rest g p)
  framed-rest g (u, true) T f = T.framed
  framed-rest g (u, false) T f = framed-more T.framed (f u (T.same refl))

  framed-leaves : (n k : ℕ) (s : State) → Free s → Framed P s (leaves_more n k w s)
  framed-leaves zero k s f = framed-same s
  framed-leaves (suc n) k s f =
      framed-rest (leaves_more n (k + 1) w) (settled s w k) (turned-by s k (record_if s.records (5 * w + k)) f)
      (λ u e. framed-leaves n (k + 1) u (λ z. f (sym e ∙ z)))

  pub framed-leaves_of : (s : State) → Free s → Framed P s (leaves_of s w)
  framed-leaves_of s f = framed-if (is_leaf (slot s w)) (framed-same s) (framed-leaves 4 1 s f)

-- the first record of wire w
module _ (w : ℕ) where
  framed-led : (s : State) (r : Record) (p : Option Record × List ℕ) → Framed (λ v. v ≢ w) s (led_on s w r p)
  framed-led s r (None, h) = framed-put w s r (shown_clean s.marks w r) h (grown-clean s.marks w r)
  framed-led s r (Some l, h) =
      let t = put_record s.records (5 * w) l in
      let m = shown_clean s.marks w r in
      let G = grown-public m w r in
      framed-more (framed-put w s l m h (grown-clean s.marks w r))
      record { records = length-kept w t r; marks = G.long; slots = λ v p. kept-first w t r v; lit = G.lit }

  framed-led_if : (s : State) (o : Option Record) → Framed (λ v. v ≢ w) s (led_if s w o)
  framed-led_if s None = framed-same s
  framed-led_if s (Some r) = framed-led s r (leafed s.records s.hints w 1 r)

module _ (g : Parts) where
  framed-with : (s : State) (x : Record) (o : Option Record) → Framed (λ v. v ≢ g.result) s (first_with s g x o)
  framed-with s x None = framed-same s
  framed-with s x (Some y) = framed-led_if g.result s (combined g.kind x y)

  framed-on : (s : State) (o : Option Record) → Framed (λ v. v ≢ g.result) s (first_on s g o)
  framed-on s None = framed-same s
  framed-on s (Some x) = framed-with s x (record_if s.records (5 * g.right))

  pub framed-first : (s : State) → Framed (λ v. v ≢ g.result) s (first_of s g)
  framed-first s = framed-on s (slot s g.left)

  -- a gate changes the first record of its result alone
  pub framed-step : (s : State) → Framed (λ v. v ≢ g.result) s (step_of s g)
  unfolding step_of
  framed-step s =
      framed-more (framed-more (framed-first s) (framed-all (first_of s g) g))
      (framed-leaves_of (λ v. v ≢ g.result) g.result (all_pairs (first_of s g) g) (λ e v n. n))
