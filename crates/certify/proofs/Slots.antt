-- The places of a table of records after a change.
use mathlib.Core.Path.{◌≡◌, refl, ap, ◌∙◌}
use mathlib.Core.Bool.{Bool, true, false, cond}
use mathlib.Core.List.{List}
use mathlib.Core.Logic.{◌≢◌, ◌⊎◌, inl, inr, ⊎_elim}
use Prim.Native.Nat.{ℕ, zero, suc, ◌+◌, ◌*◌, ◌/◌, ◌%◌, ◌≤◌, ◌<◌}
use native.Mathlib.Omega.{arith}
use lib.Dec.{eqb, leb, ltb}
use lib.ListN.{length, get_or, set, length-set}
use lib.Seq.{get_or-set_same, get_or-set_other}
use borrow.Author.Tests.{ne_eqb, leb-true, leb-false}
use Rattle.std.specs.Prelude.{Option, Some, None}
use Rattle.netlist.specs.Table.{half}
use Rattle.netlist.proofs.Tests.{on_bool}
use Rattle.certify_records.specs.declared.Record.{Record}
use Rattle.certify_records.specs.Made.{same_atoms}
use Rattle.certify.specs.Store.{atoms_of}
use Rattle.certify.specs.Kept.{packed, put_record, record_if, stepped_on, keep_rest, keep_more, is_like, kept}

-- a record that stands where it is put: its atoms are numbers of 32 bits, the first two not both 0
pub record Sized (r : Record) : Type 0 where
  pub first : r.first < half
  pub second : r.second < half
  pub third : r.third < half
  pub fourth : r.fourth < half
  pub some : packed r.first r.second ≢ 0

-- two entries of one number each
low-packed : (a b : ℕ) → a < half → (a + b * half) % half ≡ a
low-packed a b h = omega arith

high-packed : (a b : ℕ) → a < half → (a + b * half) / half ≡ b
high-packed a b h = omega arith

pub length-put : (t : List ℕ) (q : ℕ) (r : Record) → length (put_record t q r) ≡ length t
length-put t q r =
    let u = set t (3 * q) r.table in
    let v = set u (3 * q + 1) (packed r.first r.second) in
    length-set v (3 * q + 2) (packed r.third r.fourth) ∙ length-set u (3 * q + 1) (packed r.first r.second)
    ∙ length-set t (3 * q) r.table

module _ (t : List ℕ) (q : ℕ) (r : Record) where
  abbrev u : List ℕ
  u = set t (3 * q) r.table

  abbrev v : List ℕ
  v = set u (3 * q + 1) (packed r.first r.second)

  abbrev x : List ℕ
  x = set v (3 * q + 2) (packed r.third r.fourth)

  -- what is put stands there
  pub put-here : 3 * q + 2 < length t → Sized r → record_if (put_record t q r) q ≡ Some r
  put-here h S =
      let lu : length u ≡ length t = length-set t (3 * q) r.table in
      let lv : length v ≡ length u = length-set u (3 * q + 1) (packed r.first r.second) in
      let e0 : get_or x (3 * q) 0 ≡ r.table =
      get_or-set_other v (3 * q + 2) (3 * q) (packed r.third r.fourth) 0 (λ e. omega arith)
      ∙ get_or-set_other u (3 * q + 1) (3 * q) (packed r.first r.second) 0 (λ e. omega arith)
      ∙ get_or-set_same t (3 * q) r.table 0 (omega arith) in
      let e1 : get_or x (3 * q + 1) 0 ≡ packed r.first r.second =
      get_or-set_other v (3 * q + 2) (3 * q + 1) (packed r.third r.fourth) 0 (λ e. omega arith)
      ∙ get_or-set_same u (3 * q + 1) (packed r.first r.second) 0 (omega arith) in
      let e2 : get_or x (3 * q + 2) 0 ≡ packed r.third r.fourth =
      get_or-set_same v (3 * q + 2) (packed r.third r.fourth) 0 (omega arith) in
      let b : eqb (get_or x (3 * q + 1) 0) 0 ≡ false = ap (λ (n : ℕ). eqb n 0) e1 ∙ ne_eqb (packed r.first r.second) 0
      S.some in
      (λ i. cond (b i) None (Some (record {
        table = e0 i;
        first = e1 i % half;
        second = e1 i / half;
        third = e2 i % half;
        fourth = e2 i / half;
      })))
      ∙ (λ i. Some (record {
        table = r.table;
        first = low-packed r.first r.second S.first i;
        second = high-packed r.first r.second S.first i;
        third = low-packed r.third r.fourth S.third i;
        fourth = high-packed r.third r.fourth S.third i;
      }))

  -- all other places stay
  pub put-other : (p : ℕ) → p ≢ q → record_if (put_record t q r) p ≡ record_if t p
  put-other p n =
      let e0 : get_or x (3 * p) 0 ≡ get_or t (3 * p) 0 =
      get_or-set_other v (3 * q + 2) (3 * p) (packed r.third r.fourth) 0 (λ e. omega arith)
      ∙ get_or-set_other u (3 * q + 1) (3 * p) (packed r.first r.second) 0 (λ e. omega arith)
      ∙ get_or-set_other t (3 * q) (3 * p) r.table 0 (λ e. n (omega arith)) in
      let e1 : get_or x (3 * p + 1) 0 ≡ get_or t (3 * p + 1) 0 =
      get_or-set_other v (3 * q + 2) (3 * p + 1) (packed r.third r.fourth) 0 (λ e. omega arith)
      ∙ get_or-set_other u (3 * q + 1) (3 * p + 1) (packed r.first r.second) 0 (λ e. n (omega arith))
      ∙ get_or-set_other t (3 * q) (3 * p + 1) r.table 0 (λ e. omega arith) in
      let e2 : get_or x (3 * p + 2) 0 ≡ get_or t (3 * p + 2) 0 =
      get_or-set_other v (3 * q + 2) (3 * p + 2) (packed r.third r.fourth) 0 (λ e. n (omega arith))
      ∙ get_or-set_other u (3 * q + 1) (3 * p + 2) (packed r.first r.second) 0 (λ e. omega arith)
      ∙ get_or-set_other t (3 * q) (3 * p + 2) r.table 0 (λ e. omega arith) in
      λ i. cond (eqb (e1 i) 0) None (Some (record {
        table = e0 i;
        first = e1 i % half;
        second = e1 i / half;
        third = e2 i % half;
        fourth = e2 i / half;
      }))

-- a property of the table that stays where a record is put stays where one goes on
module _ (P : List ℕ → Type 0) (n q : ℕ) (more : (t : List ℕ) (r : Record) → P t → P (keep_more n (q + 1) t r))
    (t : List ℕ) (r : Record)
    (put : P (put_record t q r)) (stays : P t) where
  pub keep-turn : (o : Option Record) → P (keep_rest (keep_more n (q + 1)) (stepped_on t q r o))
  keep-turn None = put
  keep-turn (Some s) = on (same_atoms s r) (ltb (atoms_of r) (atoms_of s))
    where
      on : (b c : Bool) → P (keep_rest (keep_more n (q + 1))
          (cond b (t, None) (cond c (put_record t q r, Some s) (t, Some r))))
      on true c = stays
      on false true = more (put_record t q r) s put
      on false false = more t r stays

-- places before and after those that a record comes to
pub keep-other : (p n q : ℕ) (t : List ℕ) (r : Record) → (p < q) ⊎ (q + n ≤ p) → record_if (keep_more n q t r) p
    ≡ record_if t p
keep-other p zero q t r h = refl
keep-other p (suc n) q t r h =
    let away : p ≢ q = λ e. ⊎_elim (λ a. omega arith) (λ a. omega arith) h in
    let later : (p < q + 1) ⊎ (q + 1 + n ≤ p) = ⊎_elim (λ a. inl (omega arith)) (λ a. inr (omega arith)) h in
    keep-turn (λ u. record_if u p ≡ record_if t p) n q (λ u s e. keep-other p n (q + 1) u s later ∙ e) t r
    (put-other t q r p away) refl (record_if t q)

pub length-keep : (n q : ℕ) (t : List ℕ) (r : Record) → length (keep_more n q t r) ≡ length t
length-keep zero q t r = refl
length-keep (suc n) q t r =
    keep-turn (λ u. length u ≡ length t) n q (λ u s e. length-keep n (q + 1) u s ∙ e) t r (length-put t q r) refl
    (record_if t q)

pub length-kept : (w : ℕ) (t : List ℕ) (r : Record) → length (kept w t r) ≡ length t
length-kept w t r = on (is_like (record_if t (5 * w)) r)
  where
    on : (b : Bool) → length (cond b t (keep_more 4 (5 * w + 1) t r)) ≡ length t
    on true = refl
    on false = length-keep 4 (5 * w + 1) t r

-- no wire's first record changes where a further one is kept
pub kept-first : (w : ℕ) (t : List ℕ) (r : Record) (k : ℕ) → record_if (kept w t r) (5 * k) ≡ record_if t (5 * k)
kept-first w t r k = on (is_like (record_if t (5 * w)) r)
  where
    apart : (5 * k < 5 * w + 1) ⊎ (5 * w + 1 + 4 ≤ 5 * k)
    apart = on_bool (leb k w) (λ e. let h = leb-true k w e in inl (omega arith))
        (λ e. let h = leb-false k w e in inr (omega arith))

    on : (b : Bool) → record_if (cond b t (keep_more 4 (5 * w + 1) t r)) (5 * k) ≡ record_if t (5 * k)
    on true = refl
    on false = keep-other (5 * k) 4 (5 * w + 1) t r apart
