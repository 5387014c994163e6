-- Records over two atoms are what they are by the places of these.
use mathlib.Core.Path.{◌≡◌, refl, ap, ◌∙◌}
use mathlib.Core.Bool.{Bool, true, false, cond, not, ◌&&◌, ◌||◌}
use Prim.Native.Nat.{ℕ, ◌<◌}
use native.Mathlib.Omega.{arith}
use lib.Dec.{T, eqb, ltb}
use borrow.Author.Tests.{lt-ltb, le-ltb, eq-eqb, ne_eqb}
use Rattle.std.specs.Prelude.{Option, Some, None}
use Rattle.netlist.proofs.Tests.{both, is_true}
use Rattle.certify_records.specs.declared.Record.{Record}
use Rattle.certify_records.specs.Record.{no_atom}
use Rattle.certify_records.specs.Made.{high_of, room_first_of, room_second_of, align_of, aligned_second, aligned_third}
use Rattle.certify_records.specs.Made.{aligned_of, one_of, record_of, made_table, meet_of, free_of, without_of}
use Rattle.certify_records.specs.Made.{without_third_of, without_second_of, without_first_of, reduced_of, reduced_if}
use Rattle.certify_records.specs.Made.{combined, even_of}
use Rattle.certify_records.proofs.Drawn.{Spot, lower, higher, nowhere, before, same_spot, is_nowhere, Drawn, drawn}
use Rattle.certify_records.proofs.Drawn.{low', middle', high', align', second', aligned', one', record', meet'}
use Rattle.certify_records.proofs.Drawn.{without', without_fourth', without_third', without_second', reduced'}
use Rattle.certify_records.proofs.Drawn.{reduced_if', combined', even', of_if, is_there, made', fine}

module _ (a b : ℕ) (less : a < b) (most : b < no_atom) where
  -- the atom of a place
  abbrev pub at : Spot → ℕ
  at lower = a
  at higher = b
  at nowhere = no_atom

  before-at : (x y : Spot) → ltb (at x) (at y) ≡ before x y
  before-at lower lower = le-ltb a a (omega arith)
  before-at lower higher = lt-ltb a b less
  before-at lower nowhere = lt-ltb a no_atom (omega arith)
  before-at higher lower = le-ltb b a (omega arith)
  before-at higher higher = le-ltb b b (omega arith)
  before-at higher nowhere = lt-ltb b no_atom most
  before-at nowhere lower = le-ltb no_atom a (omega arith)
  before-at nowhere higher = le-ltb no_atom b (omega arith)
  before-at nowhere nowhere = le-ltb no_atom no_atom (omega arith)

  pub nowhere-at : (x : Spot) → eqb (at x) no_atom ≡ is_nowhere x
  nowhere-at lower = ne_eqb a no_atom (λ e. omega arith)
  nowhere-at higher = ne_eqb b no_atom (λ e. omega arith)
  nowhere-at nowhere = eq-eqb no_atom no_atom refl

  same-at : (x y : Spot) → eqb (at x) (at y) ≡ same_spot x y
  same-at lower lower = eq-eqb a a refl
  same-at lower higher = ne_eqb a b (λ e. omega arith)
  same-at lower nowhere = ne_eqb a no_atom (λ e. omega arith)
  same-at higher lower = ne_eqb b a (λ e. omega arith)
  same-at higher higher = eq-eqb b b refl
  same-at higher nowhere = ne_eqb b no_atom (λ e. omega arith)
  same-at nowhere lower = ne_eqb no_atom a (λ e. omega arith)
  same-at nowhere higher = ne_eqb no_atom b (λ e. omega arith)
  same-at nowhere nowhere = eq-eqb no_atom no_atom refl

  abbrev pub real : Drawn → Record
  real r = record {
    table = r.table;
    first = at r.first;
    second = at r.second;
    third = at r.third;
    fourth
        = at r.fourth;
  }

  abbrev real_two : Drawn × Drawn → Record × Record
  real_two p = (real p.0, real p.1)

  abbrev real_if : Option Drawn → Option Record
  real_if None = None
  real_if (Some r) = Some (real r)

  abbrev at_if : Option Spot → Option ℕ
  at_if None = None
  at_if (Some x) = Some (at x)

  align-real : (room : Record → Record) (room' : Drawn → Drawn) → ((r : Drawn) → room (real r) ≡ real (room' r))
      → (x y : Drawn) (p q : Spot)
      → align_of room (real x) (real y) (at p) (at q) ≡ real_two (align' room' x y p q)
  align-real room room' f x y p q =
      (λ i. cond (before-at p q i) (real x, room (real y)) (cond (before-at q p i) (room (real x), real y)
      (real x, real y)))
      ∙ go (before p q) (before q p)
    where
      go : (u v : Bool) → cond u (real x, room (real y)) (cond v (room (real x), real y) (real x, real y))
          ≡ real_two (cond u (x, room' y) (cond v (room' x, y) (x, y)))
      go true v = ap (λ (s : Record). (real x, s)) (f y)
      go false true = ap (λ (s : Record). (s, real y)) (f x)
      go false false = refl

  aligned-real : (x y : Drawn) → aligned_of (real x) (real y) ≡ real_two (aligned' x y)
  aligned-real x y =
      let p = align' (λ r. low' (middle' (high' r))) x y x.first y.first in
      let q = second' p in
      ap aligned_third
      (ap aligned_second (align-real room_first_of (λ r. low' (middle' (high' r))) (λ r. refl) x y x.first y.first)
      ∙ align-real room_second_of (λ r. middle' (high' r)) (λ r. refl) p.0 p.1 p.0.second p.1.second)
      ∙ align-real high_of high' (λ r. refl) q.0 q.1 q.0.third q.1.third

  one-real : (p q : Spot) → one_of (at p) (at q) ≡ at_if (one' p q)
  one-real p q =
      (λ i. cond (nowhere-at p i) (Some (at q)) (cond (nowhere-at q i || same-at p q i) (Some (at p)) None))
      ∙ go (is_nowhere p) (is_nowhere q || same_spot p q)
    where
      go : (u v : Bool) → cond u (Some (at q)) (cond v (Some (at p)) None)
          ≡ at_if (cond u (Some q) (cond v (Some p) None))
      go true v = refl
      go false true = refl
      go false false = refl

  record-real : (t : ℕ) (p q u v : Option Spot) → record_of t (at_if p) (at_if q) (at_if u) (at_if v)
      ≡ real_if (record' t p q u v)
  record-real t None q u v = refl
  record-real t (Some p) None u v = refl
  record-real t (Some p) (Some q) None v = refl
  record-real t (Some p) (Some q) (Some u) None = refl
  record-real t (Some p) (Some q) (Some u) (Some v) = refl

  meet-real : (kind : ℕ) (x y : Drawn) → meet_of kind (real x) (real y) ≡ real_if (meet' kind x y)
  meet-real kind x y =
      (λ i. record_of (made_table kind x.table y.table) (one-real x.first y.first i) (one-real x.second y.second i)
      (one-real x.third y.third i)
      (one-real x.fourth y.fourth i))
      ∙ record-real (made_table kind x.table y.table) (one' x.first y.first) (one' x.second y.second)
      (one' x.third y.third) (one' x.fourth y.fourth)

  without-real : (r : Drawn) (x : Spot) (up low : ℕ) (left : Drawn) → without_of (real r) (at x) up low (real left)
      ≡ real (without' r x up low left)
  without-real r x up low left =
      (λ i. cond (not (nowhere-at x i) && free_of r.table up low) (real left) (real r))
      ∙ go (not (is_nowhere x) && free_of r.table up low)
    where
      go : (u : Bool) → cond u (real left) (real r) ≡ real (cond u left r)
      go true = refl
      go false = refl

  reduced-real : (r : Drawn) → reduced_of (real r) ≡ real (reduced' r)
  reduced-real r =
      let d = without_fourth' r in
      let c = without_third' d in
      let b = without_second' c in
      ap without_first_of
      (ap without_second_of
      (ap without_third_of
      (without-real r r.fourth 32 0x0000_0000_ffff_ffff (drawn r.table r.first r.second r.third nowhere))
      ∙ without-real d d.third 16 0x0000_ffff_0000_ffff (high' (drawn d.table d.first d.second nowhere d.fourth)))
      ∙ without-real c c.second 8 0x00ff_00ff_00ff_00ff
      (high' (middle' (drawn c.table c.first nowhere c.third c.fourth))))
      ∙ without-real b b.first 4 0x0f0f_0f0f_0f0f_0f0f
      (high' (middle' (low' (drawn b.table nowhere b.second b.third b.fourth))))

  reduced_if-real : (o : Option Drawn) → reduced_if (real_if o) ≡ real_if (reduced_if' o)
  reduced_if-real None = refl
  reduced_if-real (Some r) = ap Some (reduced-real r)

  combined-real : (kind : ℕ) (x y : Drawn) → combined kind (real x) (real y) ≡ real_if (combined' kind x y)
  unfolding combined
  combined-real kind x y =
      let p = aligned' x y in
      ap (λ (p : Record × Record). reduced_if (meet_of kind p.0 p.1)) (aligned-real x y)
      ∙ ap reduced_if (meet-real kind p.0 p.1)
      ∙ reduced_if-real (meet' kind p.0 p.1)

  real-there : (o : Option Drawn) → T (is_there o) → real_if o ≡ Some (real (of_if o))
  real-there None t = absurd t
  real-there (Some r) t = refl

  -- what a test of a gate says
  pub record Fine (kind : ℕ) (x y : Drawn) : Type 0 where
    pub made : combined kind (real x) (real y) ≡ Some (real (made' kind x y))
    pub even : even_of (real (made' kind x y)) false false false false ≡ true
    pub above : T (not (same_spot (made' kind x y).second lower))

  even-real : (r : Drawn) → even_of (real r) false false false false ≡ even' r
  unfolding even_of
  even-real r = refl

  pub fine-is : (kind : ℕ) (x y : Drawn) → T (fine kind x y) → Fine kind x y
  fine-is kind x y t =
      let p = both (is_there (combined' kind x y)) (even' (made' kind x y) && not
      (same_spot (made' kind x y).second lower)) t in
      let q = both (even' (made' kind x y)) (not (same_spot (made' kind x y).second lower)) p.1 in
      record {
        made = combined-real kind x y ∙ real-there (combined' kind x y) p.0;
        even = even-real (made' kind x y) ∙ is_true (even' (made' kind x y)) q.0;
        above = q.1;
      }
