-- A pair is clean exactly if the counts of its first wire, of its second and of their AND are those of the base; the
-- test of a pair says whether it is clean, and the answer on a list of pairs is right.
use Prim.Native.Nat.{ℕ, zero, suc, ◌+◌, ◌*◌, ◌^◌, ◌<◌}
use mathlib.Core.Path.{◌≡◌, refl, sym, ap, ap₂, ◌∙◌, subst}
use mathlib.Core.Bool.{Bool, true, false, ◌&&◌}
use mathlib.Core.List.{List, [], ◌∷◌}
use mathlib.Core.Option.{Option, none, some}
use native.Mathlib.Omega.{arith}
use lib.Dec.{T, eqb, eqb→eq, eqb_refl}
use lib.ListN.{length, get_or}
use borrow.Author.Count.{below_more}
use Rattle.netlist.specs.Netlist.{Netlist}
use Rattle.masking.specs.Leak.{public_only, setting}
use Rattle.netlist.proofs.Tests.{both, pair, true-T}
use Rattle.masking.proofs.Settings.{length-setting, length-public_only, public_only-twice, number_of, number_of-below}
use Rattle.masking.proofs.Settings.{setting-number_of}
use Rattle.check_pairs.specs.Pairs.{pair_count, CleanPair, each_value, same_as_base, all_below, clean_pair, onward}
use Rattle.check_pairs.specs.Pairs.{first_bad, CleanAt, PairsJudged}
use Rattle.check_pairs.proofs.PairCounts.{SameThree, shown-three, three-shown}

-- a test of every number below k
pub below_all : (t : ℕ → Bool) (k : ℕ) → T (all_below t k) → (s : ℕ) → s < k → T (t s)
below_all t zero h s l = absurd (omega arith)
below_all t (suc k) h s l = let b = both (all_below t k) (t k) h in below_more (λ s. T (t s)) k (below_all t k b.0) b.1
    s (omega arith)

pub all-below : (t : ℕ → Bool) (k : ℕ) → ((s : ℕ) → s < k → T (t s)) → T (all_below t k)
all-below t zero h = tt
all-below t (suc k) h = pair (all_below t k) (t k) (all-below t k (λ s l. h s (omega arith))) (h k (omega arith))

values-each : (t : Bool → Bool → Bool) → T (each_value t) → (p q : Bool) → T (t p q)
values-each t h = go (both (t false false && t true false) (t false true && t true true) h)
  where
    go : T (t false false && t true false) × T (t false true && t true true) → (p q : Bool) → T (t p q)
    go b false false = (both (t false false) (t true false) b.0).0
    go b true false = (both (t false false) (t true false) b.0).1
    go b false true = (both (t false true) (t true true) b.1).0
    go b true true = (both (t false true) (t true true) b.1).1

each-values : (t : Bool → Bool → Bool) → ((p q : Bool) → T (t p q)) → T (each_value t)
each-values t h =
    pair (t false false && t true false) (t false true && t true true)
    (pair (t false false) (t true false) (h false false) (h true false))
    (pair (t false true) (t true true) (h false true) (h true true))

module _ (N : Netlist) (codes : List ℕ) (u v : ℕ) where
  -- each value pair is shown as often as in the base
  abbrev AsBase : List Bool → Type 0
  AsBase x = (p q : Bool) → pair_count N codes u v p q (public_only codes x) ≡ pair_count N codes u v p q x

  -- the rule, by bases
  clean-base : CleanPair N codes u v → (x : List Bool) → length x ≡ length codes → AsBase x
  clean-base h x l p q = h p q (public_only codes x) x (record {
    first = length-public_only codes x;
    second = l;
    public
        = public_only-twice codes x;
  })

  base-clean : ((x : List Bool) → length x ≡ length codes → AsBase x) → CleanPair N codes u v
  base-clean h p q x y same = sym (h x same.first p q) ∙ ap (pair_count N codes u v p q) same.public
      ∙ h y same.second p q

  -- the rule, by three counts: those of the first wire, of the second and of their AND are those of the base
  abbrev pub ThreeAsBase : List Bool → Type 0
  ThreeAsBase x = SameThree N codes u v (public_only codes x) x

  pub clean-three : CleanPair N codes u v → (x : List Bool) → length x ≡ length codes → ThreeAsBase x
  clean-three h x l = shown-three N codes u v (public_only codes x) x (clean-base h x l)

  pub three-clean : ((x : List Bool) → length x ≡ length codes → ThreeAsBase x) → CleanPair N codes u v
  three-clean h = base-clean (λ x l. three-shown N codes u v (public_only codes x) x (h x l))

  -- ---- the test of numbered settings

  abbrev numbered : ℕ → List Bool
  numbered s = setting (length codes) s

  test-three : (s : ℕ) → T (same_as_base N codes u v s) → ThreeAsBase (numbered s)
  test-three s t = shown-three N codes u v (public_only codes (numbered s)) (numbered s) λ p q.
      eqb→eq _ _ (values-each (λ p q. eqb (pair_count N codes u v p q (public_only codes (numbered s)))
      (pair_count N codes u v p q (numbered s))) t p q)

  three-test : (s : ℕ) → ThreeAsBase (numbered s) → T (same_as_base N codes u v s)
  three-test s h = each-values (λ p q. eqb (pair_count N codes u v p q (public_only codes (numbered s)))
      (pair_count N codes u v p q (numbered s))) λ p q.
      rw (three-shown N codes u v (public_only codes (numbered s)) (numbered s) h p q)
      (eqb_refl (pair_count N codes u v p q (numbered s)))

  pub passes-three : T (clean_pair N codes u v) → (s : ℕ) → s < 2 ^ length codes → ThreeAsBase (numbered s)
  unfolding clean_pair
  passes-three h s l = test-three s (below_all (same_as_base N codes u v) (2 ^ length codes) h s l)

  pub three-passes : ((s : ℕ) → s < 2 ^ length codes → ThreeAsBase (numbered s)) → T (clean_pair N codes u v)
  unfolding clean_pair
  three-passes h = all-below (same_as_base N codes u v) (2 ^ length codes) (λ s l. three-test s (h s l))

  -- it says what the rule says
  pub test-clean : T (clean_pair N codes u v) → CleanPair N codes u v
  test-clean h = three-clean λ x l.
      let s = number_of x in
      let k : numbered s ≡ x = ap (λ (n : ℕ). setting n s) (sym l) ∙ setting-number_of x in
      subst ThreeAsBase k (passes-three h s (subst (λ (n : ℕ). s < 2 ^ n) l (number_of-below x)))

  pub clean-test : CleanPair N codes u v → T (clean_pair N codes u v)
  clean-test h = three-passes (λ s l. clean-three h (numbered s) (length-setting (length codes) s))

-- ---- a list of pairs

-- a test of pair j
abbrev pub test_at : (ℕ → ℕ → Bool) → List ℕ → ℕ → Bool
test_at t ws j = t (get_or ws (2 * j) 0) (get_or ws (2 * j + 1) 0)

-- the pairs after the first
following : (t : ℕ → ℕ → Bool) (u v : ℕ) (ws : List ℕ) (j : ℕ) → test_at t (u ∷ (v ∷ ws)) (suc j) ≡ test_at t ws j
following t u v ws j =
    let e : 2 * suc j ≡ suc (suc (2 * j)) = omega arith in
    let d : 2 * suc j + 1 ≡ suc (suc (2 * j + 1)) = omega arith in
    ap₂ (λ (a b : ℕ). t (get_or (u ∷ (v ∷ ws)) a 0) (get_or (u ∷ (v ∷ ws)) b 0)) e d

-- what an answer says of the tests
pub record FailsAfter (t : ℕ → ℕ → Bool) (ws : List ℕ) (k : ℕ) : Type 0 where
  pub inside : 2 * k + 1 < length ws
  pub before : (j : ℕ) → j < k → T (test_at t ws j)
  pub bad : T (test_at t ws k) → ⊥

abbrev pub Tested : (ℕ → ℕ → Bool) → List ℕ → Option ℕ → Type 0
Tested t ws none = (j : ℕ) → 2 * j + 1 < length ws → T (test_at t ws j)
Tested t ws (some k) = FailsAfter t ws k

module _ (t : ℕ → ℕ → Bool) where
  tested-more : (u v : ℕ) (ws : List ℕ) (b : Bool) (o : Option ℕ) → t u v ≡ b → Tested t ws o
      → Tested t (u ∷ (v ∷ ws)) (onward b o)
  tested-more u v ws true none e h = go
    where
      go : (j : ℕ) → 2 * j + 1 < length (u ∷ (v ∷ ws)) → T (test_at t (u ∷ (v ∷ ws)) j)
      go zero l = true-T (t u v) e
      go (suc j) l = subst T (sym (following t u v ws j)) (h j (omega arith))
  tested-more u v ws true (some k) e h = record {
    inside = let l = h.inside in omega arith;
    before = go;
    bad = λ x. h.bad (subst T (following t u v ws k) x);
  }
    where
      go : (j : ℕ) → j < suc k → T (test_at t (u ∷ (v ∷ ws)) j)
      go zero l = true-T (t u v) e
      go (suc j) l = subst T (sym (following t u v ws j)) (h.before j (omega arith))
  tested-more u v ws false o e h = record {
    inside = omega arith;
    before = λ j l. absurd (omega arith);
    bad
        = λ x. rw e at x;
  }

  pub first-tested : (ws : List ℕ) → Tested t ws (first_bad t ws)
  first-tested [] = λ j l. absurd (omega arith)
  first-tested (u ∷ []) = λ j l. absurd (omega arith)
  first-tested (u ∷ (v ∷ ws)) = tested-more u v ws (t u v) (first_bad t ws) refl (first-tested ws)

  -- there is one such answer
  tested-unique : (ws : List ℕ) (o p : Option ℕ) → Tested t ws o → Tested t ws p → o ≡ p
  tested-unique ws none none a b = refl
  tested-unique ws none (some k) a b = absurd (b.bad (a k b.inside))
  tested-unique ws (some k) none a b = absurd (a.bad (b k a.inside))
  tested-unique ws (some j) (some k) a b =
      ap some (trichotomy (λ l. a.bad (b.before j l)) (λ l. b.bad (a.before k l)))
    where
      trichotomy : (j < k → ⊥) → (k < j → ⊥) → j ≡ k
      trichotomy f g = omega arith

  pub first-is : (ws : List ℕ) (o : Option ℕ) → Tested t ws o → o ≡ first_bad t ws
  first-is ws o h = tested-unique ws o (first_bad t ws) h (first-tested ws)

module _ (N : Netlist) (codes ws : List ℕ) where
  abbrev clean_at : (j : ℕ) → T (test_at (clean_pair N codes) ws j) → CleanAt N codes ws j
  clean_at j = test-clean N codes (get_or ws (2 * j) 0) (get_or ws (2 * j + 1) 0)

  judged : (o : Option ℕ) → Tested (clean_pair N codes) ws o → PairsJudged N codes ws o
  judged none h = λ j l. clean_at j (h j l)
  judged (some k) h = record {
    inside = h.inside;
    before = λ j l. clean_at j (h.before j l);
    bad = λ c. h.bad (clean-test N codes (get_or ws (2 * k) 0) (get_or ws (2 * k + 1) 0) c);
  }

  -- the answer on a list of pairs is right
  pub pairs-judged : PairsJudged N codes ws (first_bad (clean_pair N codes) ws)
  pairs-judged = judged (first_bad (clean_pair N codes) ws) (first-tested (clean_pair N codes) ws)
