-- What masking a gate reads of a state: the next wire and its operands' twins. So entries after those of the gates do
-- not matter.
use Prim.Native.Nat.{ℕ, zero, suc, ◌+◌, ◌≤◌, ◌<◌}
use mathlib.Core.Path.{◌≡◌, refl, ap, ap₂, ◌∙◌}
use mathlib.Core.List.{List, [], ◌∷◌, ◌++◌}
use native.Mathlib.Omega.{arith}
use lib.Dec.{T, ltb, ltb→lt}
use lib.ListN.{length, get_or, set, replicate, length-set}
use lib.Seq.{set-append_left}
use Rattle.netlist.specs.declared.Gate.{Gate}
use Rattle.netlist.specs.declared.Gate.TheVariants.{Xor, And, Inv, Eqw, Eq}
use Rattle.netlist.specs.declared.Twin.{Twin}
use Rattle.netlist.specs.Netlist.{result}
use Rattle.netlist.specs.Read.{operands_given}
use Rattle.masking.specs.Mask.{State, no_twin, twin, emit, result_twin, advance, emit_all, advance_all}
use Rattle.netlist.proofs.Tests.{both}
use Rattle.session.specs.Rows.{Rising}

-- two states have the same twins of a gate's operands
abbrev pub Alike : State → State → Gate → Type 0
Alike S S' (Xor a b c) = (twin S a ≡ twin S' a) × (twin S b ≡ twin S' b)
Alike S S' (And a b c) = (twin S a ≡ twin S' a) × (twin S b ≡ twin S' b)
Alike S S' (Inv a c) = twin S a ≡ twin S' a
Alike S S' (Eqw a c) = twin S a ≡ twin S' a
Alike S S' (Eq v c) = Unit {0}

pub alike_all : (S S' : State) → ((w : ℕ) → twin S w ≡ twin S' w) → (g : Gate) → Alike S S' g
alike_all S S' h (Xor a b c) = (h a, h b)
alike_all S S' h (And a b c) = (h a, h b)
alike_all S S' h (Inv a c) = h a
alike_all S S' h (Eqw a c) = h a
alike_all S S' h (Eq v c) = tt

pub alike-below : (S S' : State) (k : ℕ) → ((w : ℕ) → w < k → twin S w ≡ twin S' w) → (g : Gate)
    → T (operands_given (λ w. ltb w k) g) → Alike S S' g
alike-below S S' k h (Xor a b c) t = (
  h a (ltb→lt a k (both (ltb a k) (ltb b k) t).0),
  h b
      (ltb→lt b k (both (ltb a k) (ltb b k) t).1),
)
alike-below S S' k h (And a b c) t = (
  h a (ltb→lt a k (both (ltb a k) (ltb b k) t).0),
  h b
      (ltb→lt b k (both (ltb a k) (ltb b k) t).1),
)
alike-below S S' k h (Inv a c) t = h a (ltb→lt a k t)
alike-below S S' k h (Eqw a c) t = h a (ltb→lt a k t)
alike-below S S' k h (Eq v c) t = tt

module _ (S S' : State) (e : S.next ≡ S'.next) where
  pub emit-alike : (n : ℕ) (g : Gate) → Alike S S' g → emit n S g ≡ emit n S' g
  emit-alike n (Xor a b c) h = rw (e, h.0, h.1)
  emit-alike n (And a b c) h = rw (e, h.0, h.1)
  emit-alike n (Inv a c) h = rw (e, h)
  emit-alike n (Eqw a c) h = rw (e, h)
  emit-alike n (Eq v c) h = rw e

  pub twin-alike : (g : Gate) → Alike S S' g → result_twin S g ≡ result_twin S' g
  twin-alike (Xor a b c) h = rw (e, h.0, h.1)
  twin-alike (And a b c) h = rw (e, h.0, h.1)
  twin-alike (Inv a c) h = rw (e, h)
  twin-alike (Eqw a c) h = rw (e, h)
  twin-alike (Eq v c) h = rw e

-- m entries more
abbrev pub pad : ℕ → State → State
pad m S = record { next = S.next; twins = S.twins ++ replicate m no_twin }

get_d-none : {A : Type 0} (m w : ℕ) (d : A) → get_or (replicate m d) w d ≡ d
get_d-none zero w d = refl
get_d-none (suc m) zero d = refl
get_d-none (suc m) (suc w) d = get_d-none m w d

get_d-pad : {A : Type 0} (xs : List A) (m w : ℕ) (d : A) → get_or (xs ++ replicate m d) w d ≡ get_or xs w d
get_d-pad [] m w d = get_d-none m w d
get_d-pad (x ∷ xs) m zero d = refl
get_d-pad (x ∷ xs) m (suc w) d = get_d-pad xs m w d

pub pad-alike : (m : ℕ) (S : State) (g : Gate) → Alike (pad m S) S g
pad-alike m S g = alike_all (pad m S) S (λ w. get_d-pad S.twins m w no_twin) g

pub advance-pad : (m : ℕ) (S : State) (g : Gate) → result g < length S.twins → advance (pad m S) g ≡ pad m (advance S g)
advance-pad m S g l =
    let t = twin-alike (pad m S) S refl g (pad-alike m S g) in
    ap (λ (u : Twin). record { next = u.wire + 1; twins = set (pad m S).twins (result g) u }) t
    ∙ ap (λ (us : List Twin). record { next = (result_twin S g).wire + 1; twins = us })
    (set-append_left S.twins (replicate m no_twin) (result g) (result_twin S g) l)

pub length-advance : (S : State) (g : Gate) → length (advance S g).twins ≡ length S.twins
length-advance S g = length-set S.twins (result g) (result_twin S g)

pub length-advance_all : (S : State) (gs : List Gate) → length (advance_all S gs).twins ≡ length S.twins
length-advance_all S [] = refl
length-advance_all S (g ∷ gs) = length-advance_all (advance S g) gs ∙ length-advance S g

-- gates that give the wires from w on, in a state that has entries for them
pub advance_all-pad : (m w : ℕ) (S : State) (gs : List Gate) → Rising w gs → w + length gs ≤ length S.twins
    → advance_all (pad m S) gs ≡ pad m (advance_all S gs)
advance_all-pad m w S [] r l = refl
advance_all-pad m w S (g ∷ gs) r l =
    ap (λ (U : State). advance_all U gs) (advance-pad m S g (omega (arith, r.0)))
    ∙ advance_all-pad m (w + 1) (advance S g) gs r.1 (omega (arith, length-advance S g))

pub emit_all-pad : (n m w : ℕ) (S : State) (gs : List Gate) → Rising w gs → w + length gs ≤ length S.twins
    → emit_all n (pad m S) gs ≡ emit_all n S gs
emit_all-pad n m w S [] r l = refl
emit_all-pad n m w S (g ∷ gs) r l =
    ap₂ (λ (x y : List Gate). x ++ y) (emit-alike (pad m S) S refl n g (pad-alike m S g))
    (ap (λ (U : State). emit_all n U gs) (advance-pad m S g (omega (arith, r.0)))
    ∙ emit_all-pad n m (w + 1) (advance S g) gs r.1 (omega (arith, length-advance S g)))
