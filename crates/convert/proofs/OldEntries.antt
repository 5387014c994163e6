-- Question 15 of gates in tables.
use Prim.Native.Nat.{ℕ, zero, suc, ◌+◌, ◌/◌, ◌%◌, ◌≤◌}
use mathlib.Core.Path.{◌≡◌, refl, sym, ap, ◌∙◌}
use mathlib.Core.Bool.{Bool, true, false, cond, ◌&&◌, and-true, and_assoc}
use mathlib.Core.List.{List, [], ◌∷◌, ◌++◌}
use native.Mathlib.Omega.{arith}
use lib.Dec.{eqb, leb}
use borrow.Author.Tests.{le-leb}
use Rattle.netlist.specs.declared.Gate.{Gate}
use Rattle.netlist.specs.declared.Gate.TheVariants.{Xor, And, Inv, Eqw, Eq}
use lib.ListN.{length, get_or, take}
use lib.Seq.{take-suc}
use Rattle.std.proofs.Common.{IsTrue, EachIndex}
use Rattle.std.proofs.lemmas.Bool.{both_ways, false_from_ne_true}
use Rattle.std.proofs.lemmas.List.Recursion.{and_at, and_from_places}
use Rattle.convert.specs.Convert.{old_entry}
use Rattle.netlist.specs.Lists.{every}
use Rattle.netlist.specs.Table.{tables, half, gate_of, gate_at, gates_of}
use Rattle.netlist.proofs.Puts.{gates-more}
use Rattle.dialect.specs.OldWrite.{is_old_gate}

every-last : (gs : List Gate) (g : Gate) → every is_old_gate (gs ++ (g ∷ [])) ≡ (every is_old_gate gs && is_old_gate g)
every-last [] g = and-true (is_old_gate g)
every-last (x ∷ gs) g = rw (every-last gs g) (sym (and_assoc (is_old_gate x) (every is_old_gate gs) (is_old_gate g)))

every-more : (s : List ℕ) (r : ℕ) → every old_entry (s ++ (r ∷ [])) ≡ (every old_entry s && old_entry r)
every-more [] r = and-true (old_entry r)
every-more (x ∷ s) r = rw (every-more s r) (sym (and_assoc (old_entry x) (every old_entry s) (old_entry r)))

-- the operands do not matter
any-operands : (k a b a' b' c : ℕ) → is_old_gate (gate_of k a b c) ≡ is_old_gate (gate_of k a' b' c)
any-operands k a b a' b' c = go (eqb k 1) (eqb k 2) (eqb k 3) (eqb k 4) (eqb k 5)
  where
    go : (p q r s t : Bool)
        → is_old_gate (cond p (Xor a b c) (cond q (And a b c)
        (cond r (Inv a c) (cond s (Eqw a c) (cond t (Eq 0 c) (Eq 1 c))))))
        ≡ is_old_gate (cond p (Xor a' b' c) (cond q (And a' b' c)
        (cond r (Inv a' c) (cond s (Eqw a' c) (cond t (Eq 0 c) (Eq 1 c))))))
    go true q r s t = refl
    go false true r s t = refl
    go false false true s t = refl
    go false false false true t = refl
    go false false false false true = refl
    go false false false false false = refl

pub entries-gates : (o r : List ℕ) (n : ℕ) → n ≤ length r → every old_entry (take n r)
    ≡ every is_old_gate (gates_of (tables o r) n)
entries-gates o r zero l = refl
entries-gates o r (suc n) l =
    let t = tables o r in
    let next : suc n ≡ n + 1 = omega arith in
    ap (every old_entry) (take-suc r n 0 (omega arith)) ∙ every-more (take n r) (get_or r n 0)
    ∙ rw (
      entries-gates o r n (omega arith),
      any-operands (get_or r n 0 / half) (0 % half) (0 / half)
          (get_or o n 0 % half) (get_or o n 0 / half) (get_or r n 0 % half),
    )
    (sym (ap (λ (k : ℕ). every is_old_gate (gates_of t k)) next ∙ ap (every is_old_gate) (gates-more t n)
    ∙ every-last (gates_of t n) (gate_at t n)))

-- a test that is true where each entry passes
pub every-from_iff : (s : List ℕ) (r : Bool) → (IsTrue r → EachIndex s (λ k. old_entry (get_or s k 0) ≡ true))
    → (EachIndex s (λ k. old_entry (get_or s k 0) ≡ true) → IsTrue r) → r ≡ every old_entry s
every-from_iff s true f g = sym (and_from_places (every old_entry) old_entry refl (λ _ _. refl) s 0 (f refl))
every-from_iff s false f g =
    sym (false_from_ne_true _
    (λ e. both_ways false refl (g (λ k l. and_at (every old_entry) old_entry refl (λ _ _. refl) s k 0 l e))))

-- few values leave the question to the gates
pub form-gates : (gates : Bool) (inputs outputs : ℕ) {r : Bool} → inputs ≤ 2 → outputs ≤ 1 → r ≡ gates → r
    ≡ (gates && leb inputs 2 && leb outputs 1)
form-gates gates inputs outputs h k e = e ∙ sym (rw (le-leb inputs 2 h, le-leb outputs 1 k)
    (and-true (gates && true) ∙ and-true gates))
