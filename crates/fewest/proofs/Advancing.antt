-- The table of ways on its way to the next choice.
use Prim.Native.Nat.{ℕ, suc, ◌+◌, ◌-◌, ◌/◌, ◌≤◌, ◌<◌}
use mathlib.Core.Path.{◌≡◌, refl, sym}
use mathlib.Core.Bool.{Bool, true, false, cond}
use mathlib.Core.List.{List}
use native.Mathlib.Omega.{arith}
use lib.Dec.{eqb, ltb}
use borrow.Author.Tests.{ltb-false}
use lib.ListN.{length, get_or, take}
use lib.Seq.{get_or-take, length-take-le}
use Rattle.netlist.specs.Table.{half}
use Rattle.netlist.proofs.Tests.{on_bool}
use Rattle.fewest.specs.Advance.{ways_at, choice_of, Advanced}

-- each place has a way
pub ways-some : (codes results : List ℕ) (p : ℕ) → 1 ≤ ways_at codes results p
ways-some codes results p =
    go (ltb p (length codes)) (eqb (get_or codes p 0) 4) (eqb (get_or results (p - length codes) 0 / half) 2)
  where
    go : (a b c : Bool) → 1 ≤ cond a (cond b 3 1) (cond c 2 1)
    go true true c = omega arith
    go true false c = omega arith
    go false b true = omega arith
    go false b false = omega arith

-- ---- the loop: the places from p on took their last way, and take their first now

pub record Advancing (w : ℕ → ℕ) (P : ℕ) (way₀ way : List ℕ) (p : ℕ) : Type 0 where
  pub last : (q : ℕ) → p ≤ q → q < P → w q ≤ suc (choice_of way₀ q)
  pub first : (q : ℕ) → p ≤ q → q < P → choice_of way q ≡ 0
  pub kept : (q : ℕ) → q < p → choice_of way q ≡ choice_of way₀ q
  pub rest : (q : ℕ) → P ≤ q → choice_of way q ≡ choice_of way₀ q
  pub size : length way ≡ length way₀

-- ---- the gates up to one: the table of results is cut, and the places before have as many ways

pub ways-cut : (codes results : List ℕ) (k q : ℕ) → q < length codes + k → k ≤ length results
    → ways_at codes (take k results) q ≡ ways_at codes results q
ways-cut codes results k q h l = on_bool (ltb q (length codes)) (λ z. rw z refl)
    (λ z. let m : q - length codes < k = omega (arith, ltb-false q (length codes) z)
    in rw (get_or-take k results (q - length codes) 0 m) refl)

pub advanced-cut : (codes results : List ℕ) (k : ℕ) {way₀ way : List ℕ} {r : ℕ} → k ≤ length results
    → Advanced (ways_at codes (take k results)) (length codes + length (take k results)) way₀ way r
    → Advanced (ways_at codes results) (length codes + k) way₀ way r
advanced-cut codes results k l B = let A = rw (length-take-le k results l) at B in record {
  within = A.within;
  last = λ q a b. rw (sym (ways-cut codes results k q b l)) (A.last q a b);
  further = λ p e. rw (sym (ways-cut codes results k p (let w = A.within in omega arith) l)) (A.further p e);
  moves = A.moves;
  kept = A.kept;
  size = A.size;
}
