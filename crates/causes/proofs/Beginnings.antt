-- Causes, one gate a turn.
use mathlib.Core.Path.{◌≡◌, refl, sym, ap, ◌∙◌, subst}
use mathlib.Core.Bool.{Bool, true, false, cond, not, ◌&&◌, ◌||◌}
use mathlib.Core.Logic.{◌≢◌}
use mathlib.Core.List.{List, [], ◌∷◌, ◌++◌}
use Prim.Native.Nat.{ℕ, ◌+◌, ◌<◌}
use native.Mathlib.Omega.{arith}
use lib.Dec.{eqb}
use lib.ListN.{length, get_or, set}
use lib.Seq.{get_or-set_same, get_or-set_other}
use borrow.Author.Tests.{eqb-true, eqb-false, eq-eqb}
use Rattle.netlist.specs.declared.Gate.{Gate}
use Rattle.netlist.specs.Netlist.{result}
use Rattle.netlist.specs.Eval.{bit}
use Rattle.netlist.specs.Table.{Tables, gate_of, gates_of}
use Rattle.netlist.proofs.Tests.{on_bool}
use Rattle.netlist.proofs.Puts.{gates-more}
use Rattle.gates.specs.declared.Parts.{Parts}
use Rattle.gates.specs.Parts.{gate_by}
use Rattle.gates.specs.Gates.{parts_at}
use Rattle.evaluate.proofs.Steps.{by_kind}
use Rattle.causes.specs.Causes.{operands_pass, begins, some_begins, verdict}
use Rattle.causes.specs.Marked.{Tested, Told}

-- the wire that the gate of a kind gives
pub result-of : (k a b c : ℕ) → result (gate_of k a b c) ≡ c
result-of k a b c = by_kind (λ g t. result g ≡ c) (λ w. false) k a b c (λ g e. e)

or_assoc : (a b c : Bool) → (a || (b || c)) ≡ ((a || b) || c)
or_assoc true b c = refl
or_assoc false b c = refl

or_none : (a : Bool) → (a || false) ≡ a
or_none true = refl
or_none false = refl

or_some : (a : Bool) → (a || true) ≡ true
or_some true = refl
or_some false = refl

and_none : (a : Bool) → (a && false) ≡ false
and_none true = refl
and_none false = refl

some-more : (u : ℕ → Bool) (gs : List Gate) (g : Gate) (w : ℕ)
    → some_begins u (gs ++ (g ∷ [])) w ≡ (some_begins u gs w || begins u g w)
some-more u [] g w = or_none (begins u g w)
some-more u (h ∷ gs) g w = ap (λ (b : Bool). begins u h w || b) (some-more u gs g w)
    ∙ or_assoc (begins u h w) (some_begins u gs w) (begins u g w)

-- a gate that does not begin a wire does not change its verdict
kept : (u : ℕ → Bool) (gs : List Gate) (g : Gate) (w : ℕ) → begins u g w ≡ false
    → verdict u gs w ≡ verdict u (gs ++ (g ∷ [])) w
kept u gs g w e = ap (λ (b : Bool). cond (u w) 0 (cond b 2 1))
    (sym (some-more u gs g w ∙ ap (λ (b : Bool). some_begins u gs w || b) e ∙ or_none (some_begins u gs w)))

-- neither does any gate that of a wire that passes
passed : (u : ℕ → Bool) (gs hs : List Gate) (w : ℕ) → u w ≡ true → verdict u gs w ≡ verdict u hs w
passed u gs hs w e = rw e refl

pub zero-passes : (u : ℕ → Bool) (gs : List Gate) (w : ℕ) → verdict u gs w ≡ 0 → u w ≡ true
zero-passes u gs w e = go (u w) (some_begins u gs w) e
  where
    go : (a b : Bool) → ◌≡◌ {A = ℕ} (cond a 0 (cond b 2 1)) 0 → a ≡ true
    go true b p = refl
    go false true p = absurd (omega arith)
    go false false p = absurd (omega arith)

pub pass-zero : (u : ℕ → Bool) (gs : List Gate) (w : ℕ) → eqb (verdict u gs w) 0 ≡ u w
pass-zero u gs w = go (u w) (some_begins u gs w)
  where
    go : (a b : Bool) → eqb (cond a 0 (cond b 2 1)) 0 ≡ a
    go true b = refl
    go false true = refl
    go false false = refl

module _ (u : ℕ → Bool) (gs : List Gate) (marks : List ℕ) (told : Told u gs (length marks) marks) (g : Gate) where
  -- a wire's mark, tested
  pub unmarked-at : (a : ℕ) → a < length marks → eqb (get_or marks a 0) 0 ≡ u a
  unmarked-at a l = ap (λ (m : ℕ). eqb m 0) (told a l) ∙ pass-zero u gs a

  -- the gate gives a marked wire, and none of its operands is marked
  pub told-cause : (r : ℕ) → result g ≡ r → r < length marks → get_or marks r 0 ≢ 0 → operands_pass u g ≡ true
      → Told u (gs ++ (g ∷ [])) (length marks) (set marks r 2)
  told-cause r same l some pass w k = on_bool (eqb r w)
      (λ e.
      let q : r ≡ w = eqb-true r w e in
      let fails : u r ≡ false = on_bool (u r) (λ t. absurd (some (told r l ∙ rw t refl))) (λ f. f) in
      subst (λ (v : ℕ). get_or (set marks r 2) v 0 ≡ verdict u (gs ++ (g ∷ [])) v) q
      (get_or-set_same marks r 2 0 l ∙ sym (ends r fails same)))
      (λ e.
      let n = eqb-false r w e in
      let b : begins u g w ≡ false = rw (same, e) refl in
      get_or-set_other marks r w 2 0 (λ q. n (sym q)) ∙ told w k ∙ kept u gs g w b)
    where
      ends : (r : ℕ) → u r ≡ false → result g ≡ r → verdict u (gs ++ (g ∷ [])) r ≡ 2
      ends r f q =
          let b : begins u g r ≡ true = rw (q, eq-eqb r r refl) pass in
          let s : some_begins u (gs ++ (g ∷ [])) r ≡ true = some-more u gs g r
          ∙ ap (λ (b : Bool). some_begins u gs r || b) b ∙ or_some (some_begins u gs r) in
          rw (f, s) refl

  -- an operand is marked
  pub told-fails : operands_pass u g ≡ false → Told u (gs ++ (g ∷ [])) (length marks) marks
  told-fails fails w k =
      let b : begins u g w ≡ false = ap (λ (b : Bool). eqb (result g) w && b) fails ∙ and_none (eqb (result g) w) in
      told w k ∙ kept u gs g w b

  -- the wire that the gate gives is not marked
  pub told-passes : (r : ℕ) → result g ≡ r → r < length marks → get_or marks r 0 ≡ 0
      → Told u (gs ++ (g ∷ [])) (length marks) marks
  told-passes r same l none w k = on_bool (eqb r w)
      (λ e.
      let q : r ≡ w = eqb-true r w e in
      let p : u w ≡ true = subst (λ (v : ℕ). u v ≡ true) q (zero-passes u gs r (sym (told r l) ∙ none)) in
      told w k ∙ passed u gs (gs ++ (g ∷ [])) w p)
      (λ e.
      let b : begins u g w ≡ false = rw (same, e) refl in
      told w k ∙ kept u gs g w b)

-- before the first gate
pub told-none : (u : ℕ → Bool) (W : ℕ) (marks : List ℕ) → Tested u W marks → Told u [] W marks
told-none u W marks h w l = h w l ∙ go (u w)
  where
    go : (a : Bool) → bit (not a) ≡ cond a 0 (cond false 2 1)
    go true = refl
    go false = refl

-- a gate of the tables
pub told-turn : (u : ℕ → Bool) (t : Tables) (i W : ℕ) (marks ms : List ℕ) (p : Parts) → length marks ≡ W
    → p ≡ parts_at t i → Told u (gates_of t i) W marks
    → ((u : ℕ → Bool) (gs : List Gate) → Told u gs (length marks) marks
    → Told u (gs ++ (gate_by p ∷ [])) (length marks) ms)
    → Told u (gates_of t (i + 1)) W ms
told-turn u t i W marks ms p long e told turn =
    let ran = turn u (gates_of t i) (subst (λ (k : ℕ). Told u (gates_of t i) k marks) (sym long) told) in
    let one : gates_of t i ++ (gate_by p ∷ []) ≡ gates_of t (i + 1)
    = ap (λ (q : Parts). gates_of t i ++ (gate_by q ∷ [])) e ∙ sym (gates-more t i) in
    subst (λ (gs : List Gate). Told u gs W ms) one
    (subst (λ (k : ℕ). Told u (gates_of t i ++ (gate_by p ∷ [])) k ms) long ran)
