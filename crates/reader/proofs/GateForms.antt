-- A gate line read from the left is the line of question 7.
use Prim.Native.Nat.{ℕ}
use mathlib.Core.Path.{◌≡◌, refl, ap}
use mathlib.Core.Bool.{Bool, true, false, cond, ◌&&◌}
use mathlib.Core.List.{List, [], ◌∷◌}
use mathlib.Core.Option.{Option, none, some}
use lib.Dec.{eqb}
use borrow.Author.Tests.{eqb-true, eq-eqb, ne_eqb}
use Rattle.netlist.specs.declared.Gate.{Gate}
use Rattle.netlist.specs.Number.{number}
use Rattle.netlist.specs.Header.{numbers, cons_option}
use Rattle.netlist.specs.GateLine.{gate_line, make_gate, gate1, gate2, all_but_last, last_word}
use Rattle.reader.specs.GateForm.{on_value, on_number, alone, named, one, two, counted, gate_form}

-- ---- by the counts

-- what the counts choose between
abbrev pick : (n1 k1 k2 : Bool) → Option Gate → Option Gate → Option Gate
pick n1 k1 k2 x y = cond n1 (cond k1 x (cond k2 y none)) none

pick-none : (n1 k1 k2 : Bool) → none ≡ pick n1 k1 k2 none none
pick-none true true k2 = refl
pick-none true false true = refl
pick-none true false false = refl
pick-none false k1 k2 = refl

pick-one : (n1 k1 k2 : Bool) (x : Option Gate) → cond (k1 && n1) x none ≡ pick n1 k1 k2 x none
pick-one true true k2 x = refl
pick-one true false true x = refl
pick-one true false false x = refl
pick-one false true k2 x = refl
pick-one false false k2 x = refl

pick_two : (n1 k1 k2 : Bool) (y : Option Gate) → (k1 ≡ true → k2 ≡ false) → cond (k2 && n1) y none
    ≡ pick n1 k1 k2 none y
pick_two true true k2 y h = rw (h refl)
pick_two true false true y h = refl
pick_two true false false y h = refl
pick_two false k1 true y h = refl
pick_two false k1 false y h = refl

-- a number is not 1 and 2
not-both : (k : ℕ) → eqb k 1 ≡ true → eqb k 2 ≡ false
not-both k e = ap (λ (x : ℕ). eqb x 2) (eqb-true k 1 e)

module _ (k n : ℕ) where
  abbrev by : Option Gate → Option Gate → Option Gate
  by x y = pick (eqb n 1) (eqb k 1) (eqb k 2) x y

  nothing : none ≡ by none none
  nothing = pick-none (eqb n 1) (eqb k 1) (eqb k 2)

  -- the words after the counts, by how many they are
  following : (ws : List (List ℕ)) → make_gate (last_word ws)
      (cons_option (some k) (cons_option (some n) (numbers (all_but_last ws)))) ≡ counted k n ws
  unfolding counted on_number named alone
  following [] = nothing
  following (w ∷ []) = go (number w)
    where
      go : (o : Option ℕ) → none ≡ by (on_value o λ a. none) (on_value o λ a. none)
      go none = nothing
      go (some a) = nothing
  following (w ∷ (v ∷ [])) = go (number w) (number v)
    where
      go : (o p : Option ℕ)
          → make_gate v (cons_option (some k) (cons_option (some n) (cons_option o (some []))))
          ≡ by (on_value o λ a. on_value p λ c. none)
          (on_value o λ a. on_value p λ b. none)
      go none p = nothing
      go (some a) none = nothing
      go (some a) (some b) = nothing
  following (w ∷ (v ∷ (u ∷ []))) = go (number w) (number v) (number u)
    where
      go : (o p q : Option ℕ)
          → make_gate u (cons_option (some k) (cons_option (some n) (cons_option o (cons_option p (some [])))))
          ≡ by (on_value o λ a. on_value p λ c. gate1 u a c) (on_value o λ a. on_value p λ b. on_value q λ c. none)
      go none p q = nothing
      go (some a) none q = nothing
      go (some a) (some b) none = pick-one (eqb n 1) (eqb k 1) (eqb k 2) (gate1 u a b)
      go (some a) (some b) (some c) = pick-one (eqb n 1) (eqb k 1) (eqb k 2) (gate1 u a b)
  following (w ∷ (v ∷ (u ∷ (t ∷ [])))) = go (number w) (number v) (number u)
    where
      go : (o p q : Option ℕ)
          → make_gate t (cons_option (some k) (cons_option (some n)
          (cons_option o (cons_option p (cons_option q (some []))))))
          ≡ by (on_value o λ a. on_value p λ c. none) (on_value o λ a. on_value p λ b. on_value q λ c. gate2 t a b c)
      go none p q = nothing
      go (some a) none q = nothing
      go (some a) (some b) none = nothing
      go (some a) (some b) (some c) = pick_two (eqb n 1) (eqb k 1) (eqb k 2) (gate2 t a b c) (not-both k)
  following (w ∷ (v ∷ (u ∷ (t ∷ (s ∷ ss))))) = go (number w) (number v) (number u) (number t)
      (numbers (all_but_last (s ∷ ss)))
    where
      go : (o p q r : Option ℕ) (m : Option (List ℕ))
          → make_gate (last_word (s ∷ ss)) (cons_option (some k)
          (cons_option (some n) (cons_option o (cons_option p (cons_option q (cons_option r m))))))
          ≡ by (on_value o λ a. on_value p λ c. none) (on_value o λ a. on_value p λ b. on_value q λ c. none)
      go none p q r m = nothing
      go (some a) none q r m = nothing
      go (some a) (some b) none r m = nothing
      go (some a) (some b) (some c) none m = nothing
      go (some a) (some b) (some c) (some d) none = nothing
      go (some a) (some b) (some c) (some d) (some ds) = nothing

  module _ (ws : List (List ℕ)) where
    pub counted-results : (n ≡ 1 → ⊥) → counted k n ws ≡ none
    unfolding counted
    counted-results h = rw (ne_eqb n 1 h)

    pub counted-one : n ≡ 1 → k ≡ 1 → counted k n ws ≡ one ws
    unfolding counted
    counted-one h j = rw (eq-eqb n 1 h) (rw (eq-eqb k 1 j))

    pub counted-two : n ≡ 1 → (k ≡ 1 → ⊥) → k ≡ 2 → counted k n ws ≡ two ws
    unfolding counted
    counted-two h i j = rw (eq-eqb n 1 h) (rw (ne_eqb k 1 i) (rw (eq-eqb k 2 j)))

    pub counted-other : n ≡ 1 → (k ≡ 1 → ⊥) → (k ≡ 2 → ⊥) → counted k n ws ≡ none
    unfolding counted
    counted-other h i j = rw (eq-eqb n 1 h) (rw (ne_eqb k 1 i) (rw (ne_eqb k 2 j)))

-- ---- question 7

pub gate-form : (ws : List (List ℕ)) → gate_line ws ≡ gate_form ws
unfolding gate_line gate_form on_number
gate-form [] = refl
gate-form (w ∷ []) = go (number w)
  where
    go : (o : Option ℕ) → none ≡ on_value o λ k. none
    go none = refl
    go (some k) = refl
gate-form (w ∷ (v ∷ [])) = go (number w) (number v)
  where
    go : (o p : Option ℕ) → make_gate v (cons_option o (some [])) ≡ on_value o λ k. on_value p λ n. counted k n []
    go none p = refl
    go (some k) none = refl
    go (some k) (some n) = following k n []
gate-form (w ∷ (v ∷ (u ∷ us))) = go (number w) (number v)
  where
    go : (o p : Option ℕ)
        → make_gate (last_word (u ∷ us)) (cons_option o (cons_option p (numbers (all_but_last (u ∷ us))))) ≡ on_value o
        λ k. on_value p λ n. counted k n (u ∷ us)
    go none p = refl
    go (some k) none = refl
    go (some k) (some n) = following k n (u ∷ us)
