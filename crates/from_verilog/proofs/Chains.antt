-- Names looked up in their chains.
use Prim.Native.Nat.{ℕ, zero, suc, ◌-◌, ◌%◌, ◌≤◌, ◌<◌}
use mathlib.Core.Path.{◌≡◌, refl, sym, ap, ◌∙◌}
use mathlib.Core.Bool.{true, false}
use mathlib.Core.List.{List}
use native.Mathlib.Omega.{arith}
use lib.Dec.{eqb}
use borrow.Author.Tests.{eq-eqb, eqb-true}
use Rattle.netlist.specs.Lists.{same_bytes}
use Rattle.netlist.proofs.Tests.{clash, on_bool}
use Rattle.verilog.proofs.Listing.{same-equal}
use Rattle.from_verilog.specs.Names.{number, name_at, chain_at, newest, found, chain_of}

module _ (t words : List ℕ) (size : ℕ) where
  pub newest-within : (k n : ℕ) → newest t words size k n ≤ n
  unfolding newest
  newest-within k zero = omega arith
  newest-within k (suc n) = on_bool (eqb (chain_at t words size n) k) (λ e. rw e (omega arith))
      (λ e. rw e (omega (arith, newest-within k n)))

  -- the newest of a chain is in it
  pub newest-chain : (k n : ℕ) → 0 < newest t words size k n → chain_at t words size (newest t words size k n - 1) ≡ k
  unfolding newest
  newest-chain k zero h = absurd (omega arith)
  newest-chain k (suc n) h =
      on_bool (eqb (chain_at t words size n) k)
      (λ e. let z : suc n - 1 ≡ n = omega arith in rw e (rw z (eqb-true (chain_at t words size n) k e)))
      (λ e. rw e (newest-chain k n (rw e at h)))

  -- a name is found among the entries of its chain
  pub found-newest : (w : List ℕ) (n : ℕ) → found t words w n
      ≡ found t words w (newest t words size (chain_of size w) n)
  unfolding newest found
  found-newest w zero = refl
  found-newest w (suc n) =
      let k = chain_of size w in
      on_bool (eqb (chain_at t words size n) k)
      (λ e. rw e refl)
      (λ e. on_bool (same_bytes (name_at t words n) w)
      (λ s. absurd (never (sym (eq-eqb (chain_at t words size n) k
      (ap (λ (v : List ℕ). number v % size) (same-equal (name_at t words n) w s))) ∙ e)))
      (λ s. rw (e, s) (found-newest w n)))
    where
      never : true ≡ false → ⊥
      never e = clash (cc)

-- ---- a name looked for

-- it is among the first p entries if it is there at all, and the last of them is in its chain
pub record Finding (t words w : List ℕ) (size n p : ℕ) : Type 0 where
  pub same : found t words w n ≡ found t words w p
  pub within : p ≤ n
  pub chain : 0 < p → chain_at t words size (p - 1) ≡ chain_of size w

module _ (t words w : List ℕ) (size : ℕ) where
  pub find-start : (n p : ℕ) → p ≡ newest t words size (chain_of size w) n → Finding t words w size n p
  find-start n p e = let k = chain_of size w in record {
    same = found-newest t words size w n ∙ ap (found t words w) (sym e);
    within = omega (arith, e, newest-within t words size k n);
    chain = λ h. ap (λ (x : ℕ). chain_at t words size (x - 1)) e ∙ newest-chain t words size k n (omega (arith, e, h));
  }

  -- the entry before p has another name: on to the next older one
  pub find-on : (n p i q : ℕ) → 0 < p → i ≡ p - 1 → same_bytes (name_at t words i) w ≡ false → q
      ≡ newest t words size (chain_at t words size i) i
      → Finding t words w size n p → Finding t words w size n q
  unfolding found
  find-on n p i q h e s l F =
      let z : p ≡ suc i = omega arith in
      let k : chain_at t words size i ≡ chain_of size w = ap (chain_at t words size) e ∙ F.chain h in
      let G = find-start i q (l ∙ ap (λ (x : ℕ). newest t words size x i) k) in
      let other : found t words w (suc i) ≡ found t words w i = rw s refl in
      record {
        same = F.same ∙ ap (found t words w) z ∙ other ∙ G.same;
        within = omega (arith, G.within, F.within);
        chain = G.chain;
      }

  pub find-here : (n p i : ℕ) → 0 < p → i ≡ p - 1 → same_bytes (name_at t words i) w ≡ true → Finding t words w size n p
      → suc i ≡ found t words w n
  unfolding found
  find-here n p i h e s F =
      let z : p ≡ suc i = omega arith in
      let this : found t words w (suc i) ≡ suc i = rw s refl in
      sym this ∙ ap (found t words w) (sym z) ∙ sym F.same

  pub find_none : (n p : ℕ) → (0 < p → ⊥) → Finding t words w size n p → 0 ≡ found t words w n
  unfolding found
  find_none n p h F = let z : p ≡ 0 = omega arith in sym (ap (found t words w) z) ∙ sym F.same

pub found_within : (t words w : List ℕ) (n : ℕ) → found t words w n ≤ n
unfolding found
found_within t words w zero = omega arith
found_within t words w (suc n) = on_bool (same_bytes (name_at t words n) w) (λ e. rw e (omega arith))
    (λ e. rw e (omega (arith, found_within t words w n)))
