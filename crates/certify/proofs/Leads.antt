-- The first record of a gate's result, made of its operands' first records alone.
use mathlib.Core.Path.{◌≡◌, refl, sym, ap, ◌∙◌, subst}
use mathlib.Core.Bool.{Bool, true, false, cond, not, ◌&&◌}
use mathlib.Core.List.{List}
use Prim.Native.Nat.{ℕ, ◌+◌, ◌*◌, ◌/◌, ◌%◌, ◌≤◌, ◌<◌}
use native.Mathlib.Omega.{arith}
use lib.Bits.{bit_xor}
use lib.Count.{count_trailing_zeros}
use lib.Dec.{eqb, leb}
use lib.ListN.{length, get_or, set}
use lib.Seq.{get_or-set_same}
use borrow.Author.Tests.{eqb-false, lt-leb}
use Rattle.std.specs.Prelude.{Option, Some, None}
use Rattle.netlist.specs.Eval.{bit}
use Rattle.netlist.specs.Table.{half}
use Rattle.netlist.proofs.Tests.{on_bool, clash}
use Rattle.evaluate.specs.Lane.{lane}
use Rattle.gates.specs.declared.Parts.{Parts}
use Rattle.leak_search.specs.Block.{nibble}
use Rattle.certify_records.specs.declared.Record.{Record}
use Rattle.certify_records.specs.Record.{no_atom, over}
use Rattle.certify_records.specs.Made.{combined, even_of, settled, counts_of, repeated, chosen_at, chosen_of, own_of}
use Rattle.certify_records.specs.Made.{leaf_from, leaf_of, one_atom, selector_of}
use Rattle.certify.specs.Store.{atoms_of, public_atom}
use Rattle.certify.specs.Kept.{put_record, record_if, over_atom, tried_on, tried, hinted_on, hinted, place_of, clean_by}
use Rattle.certify.proofs.Slots.{Sized, put-here, kept-first}
use Rattle.certify.specs.Step.{State, shown_clean, all_pairs, leafed_on, led_on, led, led_if, first_with, first_on}
use Rattle.certify.specs.Step.{first_of, leaves_of, step_of}
use Rattle.certify.proofs.Frames.{slot, Lit, View, view, LitOf, Framed, grown-public, framed-all, framed-leaves_of}

-- what record r of wire w leaves there: itself, or a leaf where it shows two nibbles; and a mark, where its counts are
-- equal
pub record Seated (v : View) (w : ℕ) (r : Record) : Type 0 where
  pub few : leb (atoms_of r) 1 ≡ true → v.slot_of w ≡ Some r
  pub whole : chosen_of r.table ≡ None → v.slot_of w ≡ Some r
  pub leaf : leb (atoms_of r) 1 ≡ false → (m u : ℕ) → chosen_of r.table ≡ Some (m, u)
      → (a : ℕ) × ((a < no_atom) × (v.slot_of w ≡ Some (over u a)))
  pub there : v.slot_of w ≡ None → ⊥
  pub even : even_of r false false false false ≡ true → LitOf v w

-- it stays where the first record and the mark do, and is seen the same from another numbering
pub seated-kept : {v u : View} {w x : ℕ} {r : Record} → u.slot_of x ≡ v.slot_of w → (LitOf v w → LitOf u x)
    → Seated v w r → Seated u x r
seated-kept e f S = record {
  few = λ h. e ∙ S.few h;
  whole = λ h. e ∙ S.whole h;
  leaf = λ h m u c. let q = S.leaf h m u c in (q.0, (q.1.0, e ∙ q.1.1));
  there = λ h. S.there (sym e ∙ h);
  even = λ h. f (S.even h);
}

-- equal counts are equal counts whatever is public
settled-more : (p : Bool) (t up low : ℕ) → settled false t up low ≡ true → settled p t up low ≡ true
settled-more true t up low e = refl
settled-more false t up low e = e

both-ways : (a b c d a' b' c' d' : Bool) → (a ≡ true → a' ≡ true) → (b ≡ true → b' ≡ true) → (c ≡ true → c' ≡ true)
    → (d ≡ true → d' ≡ true)
    → (((a && b) && c) && d) ≡ true → (((a' && b') && c') && d') ≡ true
both-ways true true true true a' b' c' d' f g h k e = rw (f refl, g refl, h refl, k refl) refl
both-ways true true true false a' b' c' d' f g h k e = clash (cc)
both-ways true true false d a' b' c' d' f g h k e = clash (cc)
both-ways true false c d a' b' c' d' f g h k e = clash (cc)
both-ways false b c d a' b' c' d' f g h k e = clash (cc)

even-more : (r : Record) (a b c d : Bool) → even_of r false false false false ≡ true → even_of r a b c d ≡ true
unfolding even_of
even-more r a b c d =
    let t = counts_of r.table in
    both-ways _ _ _ _ _ _ _ _ (settled-more a t 4 0x0f0f_0f0f_0f0f_0f0f) (settled-more b t 8 0x00ff_00ff_00ff_00ff)
    (settled-more c t 16 0x0000_ffff_0000_ffff) (settled-more d t 32 0x0000_0000_ffff_ffff)

pub lit-clean : (m : List ℕ) (w : ℕ) (r : Record) → w < length m → even_of r false false false false ≡ true
    → Lit (shown_clean m w r) w
lit-clean m w r h e =
    let f : clean_by m r ≡ true = even-more r (public_atom m r.first) (public_atom m r.second) (public_atom m r.third)
    (public_atom m r.fourth) e in
    ap (λ (b : Bool). lane 0 (get_or (cond b (set m w 1) m) w 0)) f ∙ ap (lane 0) (get_or-set_same m w 1 0 h)

-- the mask setting of what is chosen
some-pair : {a b c d : ℕ} → ◌≡◌ {A = Option (ℕ × ℕ)} (Some (a, b)) (Some (c, d)) → a ≡ c
some-pair e = ap first e
  where
    first : Option (ℕ × ℕ) → ℕ
    first None = 0
    first (Some (p, q)) = p

some-second : {a b c d : ℕ} → ◌≡◌ {A = Option (ℕ × ℕ)} (Some (a, b)) (Some (c, d)) → b ≡ d
some-second e = ap second e
  where
    second : Option (ℕ × ℕ) → ℕ
    second None = 0
    second (Some (p, q)) = q

none-some : {A : Type 0} {x : A} {P : Type 0} → None ≡ Some x → P
none-some {A} e = clash (ap kind e)
  where
    kind : Option A → ℕ
    kind None = 0
    kind (Some x) = 1

chosen-mask : (t m u : ℕ) → chosen_of t ≡ Some (m, u) → m < 4
chosen-mask t m u e = one (eqb (bit_xor t (repeated t)) 0) e
  where
    z : ℕ
    z = count_trailing_zeros 64 (bit_xor t (repeated t))

    two : (b : Bool) (n : ℕ) → cond {A = Option (ℕ × ℕ)} b (Some (z % 4, n)) None ≡ Some (m, u) → m < 4
    two true n e = let f = some-pair e in omega arith
    two false n e = none-some e

    one : (b : Bool) → cond b None (chosen_at (repeated t) (bit_xor t (repeated t)) z
        (repeated (nibble (bit_xor t (repeated t)) (z / 4)))) ≡ Some (m, u) → m < 4
    one true e = none-some e
    one false e = two _ _ e

some-record : {p q : Record} → ◌≡◌ {A = Option Record} (Some p) (Some q) → q ≡ p
some-record {p} e = sym (ap or_else e)
  where
    or_else : Option Record → Record
    or_else None = p
    or_else (Some q) = q

bit-most : (b : Bool) → bit b ≤ 1
bit-most true = omega arith
bit-most false = omega arith

-- a record over one atom, of a table
abbrev pub Over : ℕ → Record → Type 0
Over u p = (a : ℕ) × ((a < no_atom) × (p ≡ over u a))

module _ (u a0 : ℕ) (real : a0 < no_atom) where
  abbrev OverIf : Option Record → Type 0
  OverIf o = (p : Record) → o ≡ Some p → Over u p

  over-none : OverIf None
  over-none p e = none-some e

  over-tried : (r : Record) (a : ℕ) → a < no_atom → (o : Option Record) → OverIf (tried_on r (over u a0) a o)
  over-tried r a h None = over-none
  over-tried r a h (Some s) = on (one_atom r a0 s a)
    where
      on : (b : Bool) → OverIf (cond b (Some (over_atom (over u a0) a)) None)
      on true p e = (a, (h, some-record e))
      on false p e = none-some e

  over-hint : (records : List ℕ) (hint w : ℕ) (r : Record) → OverIf (tried records hint w r (over u a0))
  over-hint records hint w r = on_bool (eqb (hint % half) no_atom)
      (λ e. rw e over-none)
      (λ e.
      let n = eqb-false (hint % half) no_atom e in
      let h : hint % half < no_atom = omega arith in
      rw e
      (if-not (not (eqb (hint % half / 8) (hint / half / 5)))
      (if-not (not (eqb (a0 / 8) w))
      (if-not (leb (length records / 3) (hint / half)) (over-tried r (hint % half) h
      (record_if records (hint / half)))))))
    where
      if-not : (b : Bool) {o : Option Record} → OverIf o → OverIf (cond b None o)
      if-not true f = over-none
      if-not false f = f

  pub over-hinted : (records hints : List ℕ) (w k : ℕ) (r : Record) → Over u (hinted records hints w k r (over u a0)).0
  over-hinted records hints w k r =
      let i = place_of r (selector_of r.table a0) (length hints) in
      on (eqb (length hints) 0) (hinted_on hints i (5 * w + k) (over u a0)
      (tried records (get_or hints i 0) w r (over u a0)))
      (by i (tried records (get_or hints i 0) w r (over u a0)) (over-hint records (get_or hints i 0) w r))
    where
      by : (i : ℕ) (o : Option Record) → OverIf o → Over u (hinted_on hints i (5 * w + k) (over u a0) o).0
      by i None f = (a0, (real, refl))
      by i (Some s) f = f s refl

      on : (b : Bool) (p : Record × List ℕ) → Over u p.0 → Over u (cond b (over u a0, hints) p).0
      on true p f = (a0, (real, refl))
      on false p f = f

pub over-sized : (u a : ℕ) → a ≤ no_atom → Sized (over u a)
over-sized u a h = record {
  first = omega arith;
  second = omega arith;
  third = omega arith;
  fourth = omega arith;
  some = λ e. omega arith;
}

-- the record that is put as the first
abbrev lead_of : Record → Option Record → Record
lead_of r None = r
lead_of r (Some l) = l

module _ (s : State) (w : ℕ) (r : Record) (S : Sized r) (few : w < 268435456) (marks : w < length s.marks)
    (room : 15 * w + 15 ≤ length s.records) where
  slot-led : (p : Option Record × List ℕ) → Sized (lead_of r p.0) → slot (led_on s w r p) w ≡ Some (lead_of r p.0)
  slot-led (None, h) L = put-here s.records (5 * w) r (omega arith) L
  slot-led (Some l, h) L = kept-first w (put_record s.records (5 * w) l) r w ∙ put-here s.records (5 * w) l
      (omega arith) L

  lit-led : (p : Option Record × List ℕ) → even_of r false false false false ≡ true → Lit (led_on s w r p).marks w
  lit-led (None, h) e = lit-clean s.marks w r marks e
  lit-led (Some l, h) e = (grown-public (shown_clean s.marks w r) w r).lit w (lit-clean s.marks w r marks e)

  abbrev what : Bool → Option Record → Option Record × List ℕ
  what b o = cond b (Some r, s.hints) (leafed_on s.records s.hints w 1 r o)

  there-led : (p : Option Record × List ℕ) → Sized (lead_of r p.0) → slot (led_on s w r p) w ≡ None → ⊥
  there-led p L e = none-some (sym e ∙ slot-led p L)

  with-leaf : (m u a : ℕ) → a < no_atom → leb (atoms_of r) 1 ≡ false → chosen_of r.table ≡ Some (m, u)
      → Seated (view (led_on s w r (what false (Some (over u a))))) w r
  with-leaf m u a h e f =
      let x = hinted s.records s.hints w 1 r (over u a) in
      let o = over-hinted u a h s.records s.hints w 1 r in
      let z : Sized x.0 = rw o.1.1 (over-sized u o.0 (let q = o.1.0 in omega arith)) in
      let p = slot-led (Some x.0, x.1) z in
      record {
        few = λ k. clash (cc);
        whole = λ k. none-some (sym k ∙ f);
        leaf = λ k n v q. (
          o.0,
          (
            o.1.0,
            p ∙ ap Some o.1.1 ∙ ap (λ (t : ℕ). Some (over t o.0))
                (some-second (sym f ∙ q)),
          ),
        );
        there = there-led (Some x.0, x.1) z;
        even = lit-led (Some x.0, x.1);
      }

  by-cases : (b : Bool) (o : Option Record) (c : Option (ℕ × ℕ)) → leb (atoms_of r) 1 ≡ b → leaf_of r w ≡ o
      → leaf_of r w ≡ leaf_from r w c → chosen_of r.table ≡ c
      → Seated (view (led_on s w r (what b o))) w r
  by-cases true o c e g h f = record {
    few = λ k. slot-led (Some r, s.hints) S;
    whole = λ k. slot-led (Some r, s.hints) S;
    leaf = λ k m u q. clash (cc);
    there = there-led (Some r, s.hints) S;
    even = lit-led (Some r, s.hints);
  }
  by-cases false None None e g h f = record {
    few = λ k. clash (cc);
    whole = λ k. slot-led (None, s.hints) S;
    leaf = λ k m u q. none-some (sym f ∙ q);
    there = there-led (None, s.hints) S;
    even = lit-led (None, s.hints);
  }
  by-cases false (Some l) None e g h f = none-some (sym h ∙ g)
  by-cases false None (Some (m, u)) e g h f = none-some (sym g ∙ h)
  by-cases false (Some l) (Some (m, u)) e g h f =
      let k = chosen-mask r.table m u f in
      let b = bit-most (lane m r.table) in
      let a = own_of r.table w m in
      let q : over u a ≡ l = some-record (sym g ∙ h) in
      subst (λ (l : Record). Seated (view (led_on s w r (what false (Some l)))) w r) q
      (with-leaf m u a (omega arith) e f)

  leaf-few : leaf_of r w ≡ leaf_from r w (chosen_of r.table)
  unfolding leaf_of
  leaf-few = ap (λ (b : Bool). cond b None (leaf_from r w (chosen_of r.table))) (lt-leb 268435456 w few)

  pub seated-led : Seated (view (led s w r)) w r
  seated-led = by-cases (leb (atoms_of r) 1) (leaf_of r w) (chosen_of r.table) refl refl leaf-few refl

-- the result of a gate whose operands have first records
pub seated-step : (s : State) (g : Parts) {x y r : Record} → slot s g.left ≡ Some x → slot s g.right ≡ Some y
    → combined g.kind x y ≡ Some r → Sized r
    → g.result < 268435456 → g.result < length s.marks → 15 * g.result + 15 ≤ length s.records
    → Seated (view (step_of s g)) g.result r
unfolding step_of
seated-step s g {x} {y} {r} ex ey er S few marks room =
    let w = g.result in
    let e : first_of s g ≡ led s w r = ap (first_on s g) ex ∙ ap (first_with s g x) ey ∙ ap (led_if s w) er in
    let s1 = first_of s g in
    let s2 = all_pairs s1 g in
    let a : Seated (view s1) w r = subst (λ (t : State). Seated (view t) w r) (sym e)
    (seated-led s w r S few marks room) in
    let f : Framed (λ v. Unit) s1 s2 = framed-all s1 g in
    let h : Framed (λ v. Unit) s2 (leaves_of s2 w) = framed-leaves_of (λ v. Unit) w s2
    (λ z. absurd (a.there (sym (f.slots w tt) ∙ z))) in
    seated-kept (h.slots w tt ∙ f.slots w tt) (λ l. h.lit w (f.lit w l)) a
