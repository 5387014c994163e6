-- A gate line under either dialect: the names that question 7 admits are those of the gates that the dialect has.
use Prim.Native.Nat.{ℕ}
use mathlib.Core.Path.{◌≡◌, refl, sym, ap, ◌∙◌}
use mathlib.Core.Bool.{Bool, true, false, cond, ◌&&◌}
use mathlib.Core.List.{List, [], ◌∷◌}
use mathlib.Core.Option.{Option, none, some}
use lib.Dec.{eqb}
use Rattle.netlist.specs.declared.Gate.{Gate}
use Rattle.netlist.specs.declared.Gate.TheVariants.{Xor, And, Inv, Eqw, Eq}
use Rattle.netlist.specs.Lists.{same_bytes}
use Rattle.netlist.specs.Header.{numbers}
use Rattle.netlist.specs.GateLine.{xor_bytes, and_bytes, inv_bytes, eqw_bytes, eq_bytes, gate1, gate2, make_gate}
use Rattle.netlist.specs.GateLine.{all_but_last, last_word, gate_line}
use Rattle.netlist.proofs.Tests.{clash, on_bool, same-equal}
use Rattle.netlist.proofs.Questions.{none-some, some_same}
use Rattle.dialect.specs.OldRead.{is_old_name, old_line}
use Rattle.dialect.specs.OldWrite.{is_old_gate}
use Rattle.dialect.specs.Dialects.{line_in, lines_in, has_gate}
use Rattle.dialect.specs.declared.Dialect.{Dialect}
use Rattle.dialect.specs.declared.Dialect.TheVariants.{Fashion, Old}

-- ---- a gate and its name

-- a name that is one of the dialect's, or is not
named : (name other : List ℕ) (g : Gate) → is_old_name other ≡ is_old_gate g → same_bytes name other ≡ true
    → is_old_name name ≡ is_old_gate g
named name other g e p = ap is_old_name (same-equal name other p) ∙ e

module _ (name : List ℕ) (g : Gate) where
  name-2 : (a b c : ℕ) → gate2 name a b c ≡ some g → is_old_name name ≡ is_old_gate g
  name-2 a b c e =
      on_bool (same_bytes name xor_bytes)
      (λ p. let s : Xor a b c ≡ g = some_same _ _ (sym (rw p refl) ∙ e)
      in rw (← s) (named name xor_bytes (Xor a b c) refl p))
      (λ p. on_bool (same_bytes name and_bytes)
      (λ q. let s : And a b c ≡ g = some_same _ _ (sym (rw (p, q) refl) ∙ e)
      in rw (← s) (named name and_bytes (And a b c) refl q))
      (λ q. absurd (none-some g (sym (rw (p, q) refl) ∙ e))))

  name-1 : (a c : ℕ) → gate1 name a c ≡ some g → is_old_name name ≡ is_old_gate g
  name-1 a c e =
      on_bool (same_bytes name inv_bytes)
      (λ p. let s : Inv a c ≡ g = some_same _ _ (sym (rw p refl) ∙ e)
      in rw (← s) (named name inv_bytes (Inv a c) refl p))
      (λ p. on_bool (same_bytes name eqw_bytes)
      (λ q. let s : Eqw a c ≡ g = some_same _ _ (sym (rw (p, q) refl) ∙ e)
      in rw (← s) (named name eqw_bytes (Eqw a c) refl q))
      (λ q. on_bool (same_bytes name eq_bytes)
      (λ r. let s : Eq a c ≡ g = some_same _ _ (sym (rw (p, q, r) refl) ∙ e)
      in rw (← s) (named name eq_bytes (Eq a c) refl r))
      (λ r. absurd (none-some g (sym (rw (p, q, r) refl) ∙ e)))))

  counted : (b : Bool) (o : Option Gate) → (o ≡ some g → is_old_name name ≡ is_old_gate g) → cond b o none ≡ some g
      → is_old_name name ≡ is_old_gate g
  counted true o f e = f e
  counted false o f e = absurd (none-some g e)

  name-made : (ns : Option (List ℕ)) → make_gate name ns ≡ some g → is_old_name name ≡ is_old_gate g
  name-made none e = absurd (none-some g e)
  name-made (some []) e = absurd (none-some g e)
  name-made (some (k ∷ [])) e = absurd (none-some g e)
  name-made (some (k ∷ (r ∷ []))) e = absurd (none-some g e)
  name-made (some (k ∷ (r ∷ (a ∷ [])))) e = absurd (none-some g e)
  name-made (some (k ∷ (r ∷ (a ∷ (c ∷ []))))) e = counted (eqb k 1 && eqb r 1) (gate1 name a c) (name-1 a c) e
  name-made (some (k ∷ (r ∷ (a ∷ (b ∷ (c ∷ [])))))) e = counted (eqb k 2 && eqb r 1) (gate2 name a b c) (name-2 a b c) e
  name-made (some (k ∷ (r ∷ (a ∷ (b ∷ (c ∷ (d ∷ ds))))))) e = absurd (none-some g e)

-- the name of a line that is a gate
name_of : (ws : List (List ℕ)) (g : Gate) → gate_line ws ≡ some g → is_old_name (last_word ws) ≡ is_old_gate g
unfolding gate_line
name_of ws g e = name-made (last_word ws) g (numbers (all_but_last ws)) e

no_words : gate_line [] ≡ none
unfolding gate_line
no_words = refl

-- ---- question 7

module _ (ws : List (List ℕ)) where
  old-none : gate_line ws ≡ none → gate_line (old_line ws) ≡ none
  old-none e = on_bool (is_old_name (last_word ws)) (λ p. rw p e) (λ p. rw p no_words)

  module _ (g : Gate) (e : gate_line ws ≡ some g) where
    old-refused : is_old_gate g ≡ false → gate_line (old_line ws) ≡ none
    old-refused h = rw (name_of ws g e ∙ h) no_words

    old-same : is_old_gate g ≡ true → old_line ws ≡ ws
    old-same h = rw (name_of ws g e ∙ h)

-- a line that is no gate, one whose gate the dialect lacks, and one whose gate it has
pub line-none : (d : Dialect) (ws : List (List ℕ)) → gate_line ws ≡ none → gate_line (line_in d ws) ≡ none
line-none Fashion ws e = e
line-none Old ws e = old-none ws e

pub line_refused : (d : Dialect) (ws : List (List ℕ)) (g : Gate) → gate_line ws ≡ some g → has_gate d g ≡ false
    → gate_line (line_in d ws) ≡ none
line_refused Fashion ws g e h = clash (cc)
line_refused Old ws g e h = old-refused ws g e h

pub line_same : (d : Dialect) (ws : List (List ℕ)) (g : Gate) → gate_line ws ≡ some g → has_gate d g ≡ true
    → gate_line (line_in d ws) ≡ some g
line_same Fashion ws g e h = e
line_same Old ws g e h = rw (old-same ws g e h) e

-- the gate of an old line is one that the dialect has
pub old-gate : (ws : List (List ℕ)) (g : Gate) → gate_line (old_line ws) ≡ some g → is_old_gate g ≡ true
old-gate ws g e = on_bool (is_old_name (last_word ws))
    (λ p. let f : gate_line ws ≡ some g = sym (rw p refl) ∙ e in sym (name_of ws g f) ∙ p)
    (λ p. absurd (none-some g (sym no_words ∙ sym (rw p refl) ∙ e)))

-- ---- the lines

pub lines-first : (d : Dialect) (l : List (List ℕ)) (ls : List (List (List ℕ))) → lines_in d (l ∷ ls)
    ≡ line_in d l ∷ lines_in d ls
lines-first Fashion l ls = refl
lines-first Old l ls = refl

pub lines_none : (d : Dialect) → lines_in d [] ≡ []
lines_none Fashion = refl
lines_none Old = refl
