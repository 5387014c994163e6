-- The table of variables, and the tables of gates.
use Prim.Native.Nat.{ℕ, ◌+◌, ◌/◌, ◌%◌, ◌<◌, ◌≤◌}
use mathlib.Core.Path.{◌≡◌, refl, sym, ap, ◌∙◌}
use mathlib.Core.Bool.{Bool, true, false}
use mathlib.Core.List.{List, [], ◌∷◌, ◌++◌}
use native.Mathlib.Omega.{arith}
use lib.Dec.{eqb}
use lib.ListN.{length, get_or, set, length-append}
use lib.Seq.{get_or-set_same, get_or-set_other}
use borrow.Author.Tests.{eq-eqb, ne_eqb, eqb-true, eqb-false}
use Rattle.netlist.specs.declared.Gate.{Gate}
use Rattle.netlist.specs.Lists.{member}
use Rattle.netlist.specs.Table.{Tables, gates_of, put_entry}
use Rattle.netlist.proofs.Tests.{on_bool, clash}
use Rattle.netlist.proofs.Puts.{Room}
use Rattle.gates.specs.Entry.{Entered, Stored}
use Rattle.gates.proofs.EntriesLaws.{stored}
use Rattle.aiger.specs.File.{constant, plain, inverse, literal}
use Rattle.aiger.specs.Rules.{readable}
use Rattle.aiger.specs.Made.{wire_at}
use Rattle.from_aiger.specs.Places.{Places, Holding, Keeps}

pub not_so : {P : Type 0} → ◌≡◌ {A = Bool} false true → P
not_so e = clash (cc)

-- ---- literals by their number

pub literal-low : (x : ℕ) → x < 2 → literal x ≡ constant (eqb x 1)
literal-low x h = on_bool (eqb x 0)
    (λ e. rw (eqb-true x 0 e))
    (λ e. let n : x ≡ 0 → ⊥ = eqb-false x 0 e in let o : x ≡ 1 = omega arith in rw o)

module _ (x : ℕ) (h : 2 ≤ x) where
  pub literal-even : x % 2 ≡ 0 → literal x ≡ plain (x / 2)
  literal-even e = rw (ne_eqb x 0 (λ z. omega arith), ne_eqb x 1 (λ z. omega arith), eq-eqb (x % 2) 0 e)

  pub literal-odd : (x % 2 ≡ 0 → ⊥) → literal x ≡ inverse (x / 2)
  literal-odd e = rw (ne_eqb x 0 (λ z. omega arith), ne_eqb x 1 (λ z. omega arith), ne_eqb (x % 2) 0 e)

  -- either way its variable is asked for
  pub literal-readable : (given : List ℕ) → readable given (literal x) ≡ member (x / 2) given
  literal-readable given = on_bool (eqb (x % 2) 0)
      (λ e. ap (readable given) (literal-even (eqb-true (x % 2) 0 e)))
      (λ e. ap (readable given) (literal-odd (eqb-false (x % 2) 0 e)))

-- ---- the table of variables

pub place-wire : {table given wires : List ℕ} (P : Places table given wires) (v : ℕ) → member v given ≡ true
    → get_or table v 0 ≡ wire_at wires v + 1
place-wire P v e = P.each v ∙ rw e

pub places-more : {table given wires : List ℕ} (v w : ℕ) → v < length table → v < length wires
    → Places table given wires
    → Places (set table v (w + 1)) (v ∷ given) (set wires v w)
places-more {table} {given} {wires} v w l m P = record {
  each = λ y. on_bool (eqb y v)
      (λ e. rw (eqb-true y v e, get_or-set_same table v (w + 1) 0 l, eq-eqb v v refl, get_or-set_same wires v w 0 m))
      (λ e. let n = eqb-false y v e in
      get_or-set_other table v y (w + 1) 0 n ∙ P.each y
      ∙ rw (e, get_or-set_other wires v y w 0 n));
}

-- ---- the tables of gates

snoc-length : (gs : List Gate) (g : Gate) → length (gs ++ (g ∷ [])) ≡ length gs + 1
snoc-length gs g = length-append gs (g ∷ [])

pub kept_on : {c o r at : ℕ} {g : Gate} {t u : Tables} (gs : List Gate) → at ≡ length gs → Room t at → Entered c g o r
    → u ≡ put_entry t at o r
    → Keeps t c gs → Keeps u c (gs ++ (g ∷ []))
kept_on {c} {o} {r} {at} {g} {t} {u} gs e room h p k a b =
    let s : Stored c t at g u = stored t room h p in
    let H : Holding t c gs = k (omega (arith, room.operands)) (omega (arith, room.results)) in
    let z : length (gs ++ (g ∷ [])) ≡ at + 1 = snoc-length gs g ∙ omega arith in
    let G : gates_of t at ≡ gs = ap (gates_of t) e ∙ H.gates in
    record {
      gates = ap (gates_of u) z ∙ s.gates ∙ ap (λ (hs : List Gate). hs ++ (g ∷ [])) G;
      wired = rw z (s.wired (rw (sym e) at H.wired));
    }
