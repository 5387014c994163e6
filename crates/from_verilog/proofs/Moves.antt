-- A name's state, and what a move changes.
use Prim.Native.Nat.{ℕ, zero, suc, ◌+◌, ◌-◌, ◌<◌}
use mathlib.Core.Path.{◌≡◌, refl, sym, ap, ◌∙◌}
use mathlib.Core.Bool.{Bool, true, false, ◌&&◌}
use mathlib.Core.List.{List, [], ◌∷◌}
use native.Mathlib.Omega.{arith}
use lib.Dec.{eqb}
use lib.ListN.{length, get_or, set, take}
use borrow.Author.Tests.{eq-eqb, ne_eqb}
use Rattle.netlist.specs.Lists.{every, same_bytes}
use Rattle.netlist.proofs.Tests.{on_bool}
use Rattle.verilog.proofs.Listing.{same-equal}
use Rattle.from_verilog.specs.Names.{name_at, found}
use Rattle.from_verilog.specs.Wires.{before, wire_of}
use Rattle.from_verilog.specs.declared.states.State.{State}
use Rattle.from_verilog.specs.declared.states.State.TheVariants as S
use Rattle.from_verilog.specs.States.{state_number, becomes}

module _ (t words : List ℕ) where
  -- a name that is found is the name of its entry
  pub found_name : (w : List ℕ) (n : ℕ) → 0 < found t words w n → name_at t words (found t words w n - 1) ≡ w
  unfolding found
  found_name w zero h = absurd (omega arith)
  found_name w (suc n) h =
      on_bool (same_bytes (name_at t words n) w)
      (λ e. let z : suc n - 1 ≡ n = omega arith in rw e (rw z (same-equal (name_at t words n) w e)))
      (λ e. rw e (found_name w n (rw e at h)))

  -- the state of a name
  pub state-none : (states : List ℕ) (w : List ℕ) (n : ℕ) → found t words w n ≡ 0 → wire_of t words states n w ≡ 0
  unfolding wire_of
  state-none states w n e = ap (λ (p : ℕ). before p states) e

  pub state-some : (states : List ℕ) (w : List ℕ) (n : ℕ) → 0 < found t words w n → wire_of t words states n w
      ≡ get_or states (found t words w n - 1) 0
  unfolding wire_of
  state-some states w n h = go (found t words w n) h
    where
      go : (p : ℕ) → 0 < p → before p states ≡ get_or states (p - 1) 0
      go zero h = absurd (omega arith)
      go (suc i) h = let z : suc i - 1 ≡ i = omega arith in sym (ap (λ (j : ℕ). get_or states j 0) z)

module _ (t words states : List ℕ) (n : ℕ) (w : List ℕ) (old new : ℕ) where
  pub stays : eqb (wire_of t words states n w) old ≡ false → states ≡ becomes t words states n w old new
  stays e = rw e

  pub become-none : 0 < old → 0 ≡ found t words w n → (false ≡ eqb (wire_of t words states n w) old)
      × (states ≡ becomes t words states n w old new)
  become-none h e =
      let k : eqb (wire_of t words states n w) old ≡ false = ap (λ (x : ℕ). eqb x old)
      (state-none t words states w n (sym e)) ∙ ne_eqb 0 old (λ z. omega (arith, z)) in
      (sym k, stays k)

  module _ (i : ℕ) (e : suc i ≡ found t words w n) where
    state-here : wire_of t words states n w ≡ get_or states i 0
    unfolding wire_of
    state-here = ap (λ (p : ℕ). before p states) (sym e)

    pub become-other : (get_or states i 0 ≡ old → ⊥) → (false ≡ eqb (wire_of t words states n w) old)
        × (states ≡ becomes t words states n w old new)
    become-other f =
        let k : eqb (wire_of t words states n w) old ≡ false = ne_eqb (wire_of t words states n w) old
        (λ z. f (sym state-here ∙ z)) in
        (sym k, stays k)

    pub become-new : get_or states i 0 ≡ old → (true ≡ eqb (wire_of t words states n w) old)
        × (set states i new ≡ becomes t words states n w old new)
    become-new f =
        let k : eqb (wire_of t words states n w) old ≡ true = eq-eqb (wire_of t words states n w) old (state-here ∙ f)
        in
        let z : i ≡ found t words w n - 1 = omega (arith, e) in
        (sym k, ap (λ (x : ℕ). set states x new) z ∙ rw k)

pub some-state : (s : State) → 0 < state_number s
some-state S.Input = omega arith
some-state S.Output = omega arith
some-state S.Wire = omega arith
some-state S.Port = omega arith
some-state S.Readable = omega arith
some-state S.ReadableOutput = omega arith

-- ---- all states

pub every_take : (p : ℕ → Bool) (xs : List ℕ) (i : ℕ) → i < length xs → every p (take (i + 1) xs)
    ≡ (every p (take i xs) && p (get_or xs i 0))
every_take p [] i h = absurd (omega arith)
every_take p (x ∷ xs) zero h = go (p x)
  where
    go : (b : Bool) → (b && true) ≡ (true && b)
    go true = refl
    go false = refl
every_take p (x ∷ xs) (suc i) h = let z : suc i + 1 ≡ suc (i + 1) = omega arith in
    ap (λ (k : ℕ). every p (take k (x ∷ xs))) z ∙ ap (λ (b : Bool). p x && b) (every_take p xs i (omega arith))
    ∙ assoc (p x) (every p (take i xs)) (p (get_or xs i 0))
  where
    assoc : (a b c : Bool) → (a && (b && c)) ≡ ((a && b) && c)
    assoc true b c = refl
    assoc false b c = refl
