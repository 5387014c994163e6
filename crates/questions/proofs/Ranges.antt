-- A test of each entry of a list, and its length.
use Rattle.std.proofs.Common.{◌≡◌, ℕ, suc, arith, Bool, true, false, List, [], ◌∷◌, length, get_or, eqb, IsTrue, ◌↔◌}
use Rattle.std.proofs.Common.{EachIndex, refl, sym}
use Rattle.std.proofs.lemmas.Bool.{both_ways, false_from_ne_true}
use borrow.Author.Tests.{eq-eqb, ne_eqb}
use Rattle.netlist.specs.Lists.{every}
use Rattle.netlist.specs.Services.{list_good}
use Rattle.netlist.proofs.Tests.{is_true, true-T, every-at}

-- a test p of every entry, where P is what it says
module _ (p : ℕ → Bool) (P : ℕ → Type 0) (passes : (x : ℕ) → P x → p x ≡ true) (says : (x : ℕ) → p x ≡ true → P x) where
  every-each : (s : List ℕ) → EachIndex s (λ k. P (get_or s k 0)) → every p s ≡ true
  every-each [] h = refl
  every-each (x ∷ s) h = rw (passes x (h 0 (omega arith))) (every-each s (λ k l. h (suc k) (omega arith)))

  pub every-from_iff : (s : List ℕ) (r : Bool) → (IsTrue r ↔ EachIndex s (λ k. P (get_or s k 0))) → r ≡ every p s
  every-from_iff s true h = sym (every-each s (h.0 refl))
  every-from_iff s false h =
      sym (false_from_ne_true (every p s) (λ e. both_ways false refl
      (h.1 (λ k l. says (get_or s k 0) (is_true (p (get_or s k 0)) (every-at p s (true-T (every p s) e) k l))))))

-- a list's length and its entries
pub list-short : (p : ℕ → Bool) (n : ℕ) (s : List ℕ) → (length s ≡ n → ⊥) → eqb (length s) n ≡ list_good p n s
list-short p n s h = rw (ne_eqb (length s) n h)

pub list-good : (p : ℕ → Bool) (n : ℕ) (s : List ℕ) {r : Bool} → length s ≡ n → r ≡ every p s → r ≡ list_good p n s
list-good p n s h e = rw (eq-eqb (length s) n h) e
