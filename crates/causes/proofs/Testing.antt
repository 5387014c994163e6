-- From the marks of all settings to the test of a wire.
use mathlib.Core.Path.{◌≡◌, refl, sym, ap, ◌∙◌, subst}
use mathlib.Core.Bool.{Bool, true, false, not}
use mathlib.Core.Logic.{⊎_elim}
use mathlib.Core.List.{List}
use Prim.Native.Nat.{ℕ, zero, suc, ◌%◌, ◌^◌, ◌≤◌, ◌<◌}
use native.Mathlib.Nat.{mod-lt}
use native.Mathlib.Omega.{arith}
use lib.Dec.{eqb}
use lib.ListN.{length, get_or}
use lib.Pow.{pow_pos}
use borrow.Author.Tests.{eqb-true, eq-eqb}
use Rattle.netlist.specs.Lists.{below}
use Rattle.netlist.specs.Netlist.{Netlist}
use Rattle.netlist.specs.Table.{Tables, Holds}
use Rattle.netlist.specs.Eval.{bit}
use Rattle.netlist.proofs.Tests.{on_bool, is_true, true-T}
use Rattle.netlist.proofs.EachNumber.{below_at}
use Rattle.masking.specs.Leak.{count, count_at, base_at, setting, public_only, EqualCounts}
use Rattle.masking.proofs.Settings.{setting-mod, length-public_only, public_only-twice, length-setting, number_of}
use Rattle.masking.proofs.Settings.{number_of-below, setting-number_of}
use Rattle.evaluate.specs.Bare.{bare}
use Rattle.evaluate.proofs.Runs.{bare-wires}
use Rattle.leak_search.specs.Paint.{paint_each}
use Rattle.leak_search.specs.Base.{part, count_in}
use Rattle.leak_search.proofs.Paints.{each-count}
use Rattle.causes.specs.Causes.{level}
use Rattle.causes.specs.Marked.{MarkOf}

pub below-all : (k : ℕ) (p : ℕ → Bool) → ((i : ℕ) → i < k → p i ≡ true) → below k p ≡ true
below-all zero p h = refl
below-all (suc k) p h = rw (h k (omega arith)) (below-all k p (λ i l. h i (omega arith)))

module _ (N : Netlist) (codes : List ℕ) (w : ℕ) where
  -- the test, setting by setting
  pub level-at : level N codes w ≡ true → (s : ℕ) → s < 2 ^ length codes → base_at N codes w s ≡ count_at N codes w s
  level-at e s l = eqb-true (base_at N codes w s) (count_at N codes w s)
      (let t = below_at (2 ^ length codes) (λ s. eqb (base_at N codes w s) (count_at N codes w s))
      (true-T (level N codes w) e) s l in is_true (eqb (base_at N codes w s) (count_at N codes w s)) t)

  pub at-level : ((s : ℕ) → s < 2 ^ length codes → base_at N codes w s ≡ count_at N codes w s) → level N codes w ≡ true
  at-level h = below-all (2 ^ length codes) (λ s. eqb (base_at N codes w s) (count_at N codes w s))
      (λ s l. eq-eqb (base_at N codes w s) (count_at N codes w s) (h s l))

  -- a wire that passes has equal counts
  pub level-equal : level N codes w ≡ true → EqualCounts N codes w
  level-equal e x y a = sym (numbered x a.first) ∙ ap (count N codes w) a.public ∙ numbered y a.second
    where
      numbered : (z : List Bool) → length z ≡ length codes → count N codes w (public_only codes z) ≡ count N codes w z
      numbered z k =
          let s : setting (length codes) (number_of z) ≡ z = ap (λ (k : ℕ). setting k (number_of z)) (sym k)
          ∙ setting-number_of z in
          ap (λ (x : List Bool). count N codes w (public_only codes x)) (sym s)
          ∙ level-at e (number_of z) (subst (λ (k : ℕ). number_of z < 2 ^ k) k (number_of-below z))
          ∙ ap (count N codes w) s

  -- and no other has
  pub equal-level : EqualCounts N codes w → level N codes w ≡ true
  equal-level h = at-level λ s l.
      let x = setting (length codes) s in
      h (public_only codes x) x
      (record {
        first = length-public_only codes x;
        second = length-setting (length codes) s;
        public = public_only-twice codes x;
      })

-- a count is that of the netlist that the tables hold
pub count-bare : {t : Tables} {m W n o : ℕ} {N : Netlist} → Holds t m W n o N → (codes : List ℕ) (w : ℕ)
    (x : List Bool) → count (bare t m W) codes w x ≡ count N codes w x
unfolding count
count-bare h codes w x = simp (bare-wires h)

module _ {t : Tables} {m W n o : ℕ} {N : Netlist} (h : Holds t m W n o N) (codes : List ℕ)
    (small : (i : ℕ) → i < length codes → get_or codes i 0 < 4) where
  pub counted : (secrets : Bool) (w s : ℕ) → count_in (bare t m W) secrets (paint_each 0 codes) w s
      ≡ count N codes w (part secrets codes (setting (length codes) s))
  counted secrets w s = each-count (bare t m W) secrets codes small w s
      ∙ count-bare h codes w (part secrets codes (setting (length codes) s))

  -- settings go round after the last
  round : (secrets : Bool) (w s : ℕ)
      → count N codes w (part secrets codes (setting (length codes) s))
      ≡ count N codes w (part secrets codes (setting (length codes) (s % 2 ^ length codes)))
  round secrets w s = ap (λ (x : List Bool). count N codes w (part secrets codes x)) (setting-mod (length codes) s)

  pub tested : (S w m' : ℕ) → 2 ^ length codes ≤ S
      → MarkOf m' (count_in (bare t m W) false (paint_each 0 codes) w)
      (count_in (bare t m W) true (paint_each 0 codes) w) S
      → m' ≡ bit (not (level N codes w))
  tested S w m' room mark = ⊎_elim
      (λ a. let e = at-level N codes w (λ s l. sym (counted false w s) ∙ a.1 s (omega arith) ∙ counted true w s) in
      rw e a.0)
      (λ b. on_bool (level N codes w)
      (λ e. absurd (b.1 (λ s l.
      let k = mod-lt s (pow_pos (length codes)) in
      counted false w s ∙ round false w s ∙ level-at N codes w e (s % 2 ^ length codes) k
      ∙ sym (counted true w s ∙ round true w s))))
      (λ e. rw e b.0)) mark
