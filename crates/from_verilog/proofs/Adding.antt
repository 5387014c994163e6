-- One name more in the tables.
use Prim.Native.Nat.{ℕ, zero, suc, ◌+◌, ◌/◌, ◌%◌, ◌≤◌, ◌<◌}
use mathlib.Core.Path.{◌≡◌, refl, sym, ap, ap₂, subst, ◌∙◌}
use mathlib.Core.Bool.{cond}
use mathlib.Core.List.{List, [], ◌∷◌, ◌++◌}
use native.Mathlib.Omega.{arith}
use native.Mathlib.Nat.{mod-lt}
use lib.Dec.{eqb}
use lib.ListN.{length, get_or, set, length-set}
use lib.Seq.{get_or-set_same, get_or-set_other}
use borrow.Author.Tests.{eqb-true, eqb-false}
use Rattle.netlist.specs.Table.{half}
use Rattle.netlist.proofs.Tests.{on_bool}
use Rattle.netlist.proofs.Puts.{entry-low, entry-high}
use Rattle.from_verilog.specs.Next.{between}
use Rattle.from_verilog.specs.Names.{number, name_at, names_of, chain_at, newest, Chained, entry_of, chain_of, Added}

-- tables of words that agree before an entry name the same
module _ (t words words' : List ℕ) where
  abbrev pub Agree : ℕ → Type 0
  Agree n = (i : ℕ) → i < n → get_or words' i 0 ≡ get_or words i 0

  pub name_agree : (n i : ℕ) → Agree n → i < n → name_at t words' i ≡ name_at t words i
  name_agree n i a h = ap (λ (e : ℕ). between t (e % half) (e / half)) (a i h)

  pub names-agree : (n : ℕ) → Agree n → names_of t words' n ≡ names_of t words n
  names-agree zero a = refl
  names-agree (suc n) a = ap₂ (λ (xs : List (List ℕ)) (x : List ℕ). xs ++ (x ∷ []))
      (names-agree n (λ i h. a i (omega (arith, h)))) (name_agree (suc n) n a (omega arith))

  pub newest-agree : (size k n : ℕ) → Agree n → newest t words' size k n ≡ newest t words size k n
  unfolding newest
  newest-agree size k zero a = refl
  newest-agree size k (suc n) a =
      let e = newest-agree size k n (λ i h. a i (omega (arith, h))) in
      let f = ap (λ (w : List ℕ). number w % size) (name_agree (suc n) n a (omega arith)) in
      ap₂ (λ (x y : ℕ). cond (eqb x k) (suc n) y) f e

module _ {t heads heads' words words' links links' : List ℕ} {size n from to : ℕ}
    (C : Chained t heads words links size n)
    (A : Added t heads heads' words words' links links' size n from to) (ends : from ≤ to) (within : to ≤ length t)
    (worded : n < length words)
    (linked : n < length links) where
  w : List ℕ
  w = between t from to

  entry : get_or words' n 0 ≡ entry_of from to
  entry = ap (λ (l : List ℕ). get_or l n 0) A.worded ∙ get_or-set_same words n (entry_of from to) 0 worded

  start : get_or words' n 0 % half ≡ from
  start = ap (λ (e : ℕ). e % half) entry ∙ entry-low from to (omega (arith, C.short))

  stop : get_or words' n 0 / half ≡ to
  stop = ap (λ (e : ℕ). e / half) entry ∙ entry-high from to (omega (arith, C.short))

  pub name-added : name_at t words' n ≡ between t from to
  name-added = λ i. between t (start i) (stop i)

  others : (i : ℕ) → i < n → get_or words' i 0 ≡ get_or words i 0
  others i h = ap (λ (l : List ℕ). get_or l i 0) A.worded ∙ get_or-set_other words n i (entry_of from to) 0
      (λ e. omega (arith, e, h))

  pub names-added : names_of t words' (n + 1) ≡ names_of t words n ++ (between t from to ∷ [])
  names-added = let z : n + 1 ≡ suc n = omega arith in
      ap (names_of t words') z ∙ ap₂ (λ (xs : List (List ℕ)) (x : List ℕ). xs ++ (x ∷ []))
      (names-agree t words words' n others) name-added

  chain-added : chain_at t words' size n ≡ chain_of size w
  unfolding w
  chain-added = ap (λ (v : List ℕ). number v % size) name-added

  same-newest : (k i : ℕ) → i ≤ n → newest t words' size k i ≡ newest t words size k i
  same-newest k i h = newest-agree t words words' size k i (λ j l. others j (omega (arith, l, h)))

  head-added : (k : ℕ) → k < size → get_or heads' k 0 ≡ newest t words' size k (suc n)
  unfolding newest w
  head-added k h =
      let c = chain_of size w in
      let e = ap (λ (l : List ℕ). get_or l k 0) A.headed in
      on_bool (eqb c k)
      (λ q. let z : c ≡ k = eqb-true c k q in
      let f : get_or (set heads c (n + 1)) k 0 ≡ n + 1 = subst (λ (j : ℕ). get_or (set heads c (n + 1)) j 0 ≡ n + 1) z
      (get_or-set_same heads c (n + 1) 0 (omega (arith, z, h, C.sized))) in
      let s : n + 1 ≡ suc n = omega arith in
      e ∙ f ∙ s ∙ sym (rw (chain-added) (rw q)))
      (λ q. let d = eqb-false c k q in
      e ∙ get_or-set_other heads c k (n + 1) 0 (λ z. d (sym z)) ∙ C.headed k h ∙ sym (same-newest k n (omega arith))
      ∙ sym (rw chain-added (rw q)))

  older-added : (i : ℕ) → i < suc n → get_or links' i 0 ≡ newest t words' size (chain_at t words' size i) i
  unfolding w
  older-added i h =
      let v = get_or heads (chain_of size w) 0 in
      let e = ap (λ (l : List ℕ). get_or l i 0) A.linked in
      on_bool (eqb i n)
      (λ q. let z = eqb-true i n q in
      let f : get_or (set links n v) i 0 ≡ v = subst (λ (j : ℕ). get_or (set links n v) j 0 ≡ v) (sym z)
      (get_or-set_same links n v 0 linked) in
      e ∙ f ∙ C.headed (chain_of size w) (mod-lt (number w) C.some)
      ∙ sym (same-newest (chain_of size w) n (omega arith))
      ∙ ap (λ (k : ℕ). newest t words' size k n) (sym chain-added)
      ∙ ap (λ (j : ℕ). newest t words' size (chain_at t words' size j) j) (sym z))
      (λ q. let d = eqb-false i n q in
      let l : i < n = omega (arith, d, h) in
      e ∙ get_or-set_other links n i v 0 d ∙ C.older i l
      ∙ sym (same-newest (chain_at t words size i) i (omega (arith, l)))
      ∙ ap (λ (k : ℕ). newest t words' size k i) (ap (λ (v : List ℕ). number v % size)
      (sym (name_agree t words words' n i others l))))

  pub chained_more : Chained t heads' words' links' size (n + 1)
  chained_more =
      let z : n + 1 ≡ suc n = omega arith in
      record {
        headed = λ k h. head-added k h ∙ ap (newest t words' size k) (sym z);
        older = λ i h. older-added i (omega (arith, h));
        places = λ i h. on_bool (eqb i n)
            (λ q. let e = eqb-true i n q in subst (λ (j : ℕ). (get_or words' j 0 % half ≤ get_or words' j 0 / half)
            × (get_or words' j 0 / half ≤ length t)) (sym e)
            (omega (arith, start, stop, ends), omega (arith, stop, within)))
            (λ q. let d = eqb-false i n q in
            let l : i < n = omega (arith, d, h) in
            subst (λ (x : ℕ). (x % half ≤ x / half) × (x / half ≤ length t)) (sym (others i l)) (C.places i l));
        some = C.some;
        sized = rw A.headed (rw length-set C.sized);
        worded = rw A.worded (rw length-set (omega (arith, worded)));
        linked = rw A.linked (rw length-set (omega (arith, linked)));
        short = C.short;
      }
