-- Records put into a table, and what stays known of the table.
use mathlib.Core.Path.{◌≡◌, sym, ap, ◌∙◌, subst}
use mathlib.Core.List.{List}
use Prim.Native.Nat.{ℕ, suc, ◌+◌, ◌-◌, ◌*◌, ◌/◌, ◌<◌, ◌≤◌}
use native.Mathlib.Omega.{arith}
use lib.Dec.{eqb}
use lib.ListN.{length}
use borrow.Author.Tests.{eqb-true, eqb-false}
use Rattle.netlist.specs.Netlist.{Netlist}
use Rattle.netlist.proofs.Tests.{on_bool}
use Rattle.certify_records.specs.declared.Record.{Record}
use Rattle.certify.specs.Known.{Known}
use Rattle.certify.specs.Store.{record_at, PutAt, Present, Recorded, KnownIf}
use Rattle.certify.specs.Kept.{stepped, keep_more, keep_rest, is_like, record_if, kept}
use mathlib.Core.Bool.{Bool, true, false, cond}
use Rattle.std.specs.Prelude.{Option, Some}

-- what is known stays known
pub recorded-put : {N : Netlist} {codes e x : List ℕ} {q : ℕ} {r : Record} → PutAt e q r x → Recorded N codes e
    → Known N codes (q / 5) r → Recorded N codes x
recorded-put {N} {codes} {e} {x} {q} {r} P R K = record {
  each = λ p h.
      on_bool (eqb p q)
      (λ s. let z = eqb-true p q s in subst (λ (k : ℕ). Known N codes (k / 5) (record_at x k)) (sym z) (rw P.here K))
      (λ s.
      let f = P.other p (eqb-false p q s) in
      let g : Present (record_at e p) = subst Present f h in
      rw f (R.each p g));
}

-- a record that was read
pub known_at : {N : Netlist} {codes t : List ℕ} (q : ℕ) {r : Record} → Recorded N codes t → r ≡ record_at t q
    → Present r → Known N codes (q / 5) r
known_at {N} {codes} {t} q R e p = subst (Known N codes (q / 5)) (sym e) (R.each q (subst Present e p))

pub wire-of : (w k : ℕ) → k < 5 → (5 * w + k) / 5 ≡ w
wire-of w k h = omega arith

-- a record of wire w on its way: what it may still be
pub record Keeping (w : ℕ) (e : List ℕ) (r : Record) (t : List ℕ) (s : Record) : Type 0 where
  pub long : length t ≡ length e
  pub known : (N : Netlist) (codes : List ℕ) → Recorded N codes e → Known N codes w r → Recorded N codes t
      × Known N codes w s

-- what is still to be done with a record on its way
abbrev pub left : ℕ → ℕ → List ℕ → Record → List ℕ
left w k t s = keep_more (5 - k) (5 * w + k) t s

pub left-next : (w k : ℕ) (t u : List ℕ) (s : Record) (o : Option Record) → k < 5 → (u, o) ≡ stepped t (5 * w + k) s
    → left w k t s ≡ keep_rest (left w (k + 1)) (u, o)
left-next w k t u s o h e =
    let f : 5 - k ≡ suc (5 - (k + 1)) = omega arith in
    let g : 5 * w + k + 1 ≡ 5 * w + (k + 1) = omega arith in
    ap (λ (n : ℕ). keep_more n (5 * w + k) t s) f
    ∙ ap (λ (q : ℕ). keep_rest (keep_more (5 - (k + 1)) q) (stepped t (5 * w + k) s)) g
    ∙ sym (ap (keep_rest (left w (k + 1))) e)

pub left-none : (w k : ℕ) (t : List ℕ) (s : Record) → 5 ≤ k → t ≡ left w k t s
left-none w k t s h = let f : 5 - k ≡ 0 = omega arith in sym (ap (λ (n : ℕ). keep_more n (5 * w + k) t s) f)

pub kept-no : (w : ℕ) (t : List ℕ) (r : Record) → is_like (record_if t (5 * w)) r ≡ false → left w 1 t r ≡ kept w t r
kept-no w t r e = sym (ap (λ (b : Bool). cond b t (keep_more 4 (5 * w + 1) t r)) e)

pub kept-yes : (w : ℕ) (t : List ℕ) (r : Record) → is_like (record_if t (5 * w)) r ≡ true → t ≡ kept w t r
kept-yes w t r e = sym (ap (λ (b : Bool). cond b t (keep_more 4 (5 * w + 1) t r)) e)

-- what a step says
abbrev StepIs : ℕ → List ℕ → Record → List ℕ → Option Record → Type 0
StepIs q t s u o = (N : Netlist) (codes : List ℕ) → Recorded N codes t → Known N codes (q / 5) s → Recorded N codes u
    × KnownIf N codes (q / 5) o

module _ {w : ℕ} {e : List ℕ} {r : Record} {t : List ℕ} {s : Record} {k : ℕ} (K : Keeping w e r t s) (less : k < 5)
    {u : List ℕ} (o : Option Record)
    (step : StepIs (5 * w + k) t s u o) where
  taken : (N : Netlist) (codes : List ℕ) → Recorded N codes e → Known N codes w r → Recorded N codes u
      × KnownIf N codes w o
  taken N codes R L =
      let h = K.known N codes R L in
      let f = wire-of w k less in
      let p = step N codes h.0 (subst (λ (n : ℕ). Known N codes n s) (sym f) h.1) in
      (p.0, subst (λ (n : ℕ). KnownIf N codes n o) f p.1)

  pub keeping-stop : (N : Netlist) (codes : List ℕ) → Recorded N codes e → Known N codes w r → Recorded N codes u
  keeping-stop N codes R L = (taken N codes R L).0

  pub keeping-more : (s' : Record) → o ≡ Some s' → length u ≡ length t → Keeping w e r u s'
  keeping-more s' f l = record {
    long = l ∙ K.long;
    known = λ N codes R L. let p = taken N codes R L in (p.0, subst (KnownIf N codes w) f p.1);
  }
