-- The state in its two tables, and the gates one after another.
use Prim.Native.Nat.{ℕ, zero, suc, ◌<◌}
use mathlib.Core.Path.{◌≡◌, refl, ap}
use mathlib.Core.List.{List, [], ◌∷◌, ◌++◌}
use native.Mathlib.Nat.{not-suc-le-zero, le_of_suc-le-suc, suc_inj}
use native.Mathlib.Omega.{arith}
use lib.ListN.{length, get_or, set}
use Rattle.netlist.specs.declared.Gate.{Gate}
use Rattle.netlist.specs.declared.Twin.{Twin}
use Rattle.masking.specs.Mask.{State, no_twin, advance, advance_all}
use Rattle.mask_rule.specs.State.{twins_of}

abbrev pub tw : ℕ → ℕ → Twin
tw w e = record { wire = w; code = e }

pub twins-length : (ws es : List ℕ) → length es ≡ length ws → length (twins_of ws es) ≡ length ws
twins-length [] es l = refl
twins-length (w ∷ ws) [] l = l
twins-length (w ∷ ws) (e ∷ es) l = ap suc (twins-length ws es (suc_inj l))

pub twins-at : (ws es : List ℕ) (i : ℕ) → i < length ws → length es ≡ length ws → tw (get_or ws i 0) (get_or es i 0)
    ≡ get_or (twins_of ws es) i no_twin
twins-at [] es i h l = absurd (not-suc-le-zero h)
twins-at (w ∷ ws) [] i h l = absurd (omega arith)
twins-at (w ∷ ws) (e ∷ es) zero h l = refl
twins-at (w ∷ ws) (e ∷ es) (suc i) h l = twins-at ws es i (le_of_suc-le-suc h) (suc_inj l)

pub twins-set : (ws es : List ℕ) (i w e : ℕ) → twins_of (set ws i w) (set es i e) ≡ set (twins_of ws es) i (tw w e)
twins-set [] es i w e = refl
twins-set (v ∷ ws) [] zero w e = refl
twins-set (v ∷ ws) [] (suc i) w e = refl
twins-set (v ∷ ws) (f ∷ es) zero w e = refl
twins-set (v ∷ ws) (f ∷ es) (suc i) w e = ap (λ (l : List Twin). tw v f ∷ l) (twins-set ws es i w e)

-- a next wire and twins as a state
abbrev pub state_with : ℕ → List Twin → State
state_with c ts = record { next = c; twins = ts }

pub advance_all-more : (S : State) (gs : List Gate) (g : Gate) → advance_all S (gs ++ (g ∷ []))
    ≡ advance (advance_all S gs) g
advance_all-more S [] g = refl
advance_all-more S (h ∷ gs) g = advance_all-more (advance S h) gs g
