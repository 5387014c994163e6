-- The gates of the public bits: they stand in order, and the twins of all inputs are placed after them.
use Prim.Native.Nat.{ℕ, zero, suc, ◌+◌, ◌≤◌, ◌<◌}
use mathlib.Core.Path.{◌≡◌, refl, ap}
use mathlib.Core.List.{List, [], ◌∷◌}
use native.Mathlib.Omega.{arith}
use lib.Dec.{T}
use lib.ListN.{length, get_or}
use Rattle.netlist.specs.Lists.{every}
use Rattle.masking.specs.Mask.{is_input_code, is_public, no_twin, input_twins, past_public, public_gates, past_publics}
use Rattle.netlist.proofs.Tests.{both, on_bool}
use Rattle.masking.proofs.CodeLaws.{wanted-code}
use Rattle.netlist.proofs.Order.{Ordered, end, step, two-below}
use Rattle.masking.proofs.Placed.{Placed}

pub length-input_twins : (c k : ℕ) (es : List ℕ) → length (input_twins c k es) ≡ length es
length-input_twins c k [] = refl
length-input_twins c k (e ∷ es) = ap suc (length-input_twins (past_public c e) (k + 1) es)

-- at most one wire for each input
pub past-within : (c : ℕ) (es : List ℕ) → (c ≤ past_publics c es) × (past_publics c es ≤ c + length es)
past-within c [] = omega arith
past-within c (e ∷ es) =
    on_bool (is_public e) (λ z. let h = past-within (c + 1) es in rw z (omega arith))
    (λ z. let h = past-within c es in rw z (omega arith))

pub publics-ordered : (n c k : ℕ) (es : List ℕ) → n + 5 ≤ c → k + length es ≤ n → Ordered c (public_gates n c k es)
    (past_publics c es)
publics-ordered n c k [] r l = end
publics-ordered n c k (e ∷ es) r l =
    on_bool (is_public e)
    (λ z. rw z (step refl (two-below k n c (omega arith) (omega arith))
    (publics-ordered n (c + 1) (k + 1) es (omega arith) (omega arith))))
    (λ z. rw z (publics-ordered n c (k + 1) es r (omega arith)))

pub inputs-placed : (n c k : ℕ) (es : List ℕ) → n + 5 ≤ c → k + length es ≤ n → T (every is_input_code es) → (w : ℕ)
    → w < length es
    → Placed (past_publics c es) (get_or (input_twins c k es) w no_twin)
inputs-placed n c k [] r l t w h = absurd (omega arith)
inputs-placed n c k (e ∷ es) r l t zero h =
    let q = both (is_input_code e) (every is_input_code es) t in
    on_bool (is_public e)
    (λ z. let b = past-within (c + 1) es in rw z (record { below = omega arith; code = tt }))
    (λ z. let b = past-within c es in rw z (record { below = omega arith; code = wanted-code e q.0 z }))
inputs-placed n c k (e ∷ es) r l t (suc w) h =
    let q = both (is_input_code e) (every is_input_code es) t in
    inputs-placed n (past_public c e) (k + 1) es
    (on_bool (is_public e) (λ z. rw z (omega arith)) (λ z. rw z r)) (omega arith) q.1 w (omega arith)
