-- The search for the first wire, and its first setting, whose count differs from the one that it is compared with: what
-- it finds, and that there is one such answer. Every search of counts, in whatever order it goes, is held against this
-- one.
use Prim.Native.Nat.{ℕ, zero, suc, ◌+◌, ◌<◌}
use mathlib.Core.Path.{◌≡◌, refl, sym, ap, ◌∙◌, subst}
use mathlib.Core.Logic.{◌≢◌}
use mathlib.Core.Option.{Option, none, some}
use native.Mathlib.Omega.{arith}
use lib.Dec.{eqb, ltb}
use borrow.Author.Tests.{eqb-true, eqb-false, ltb-true, ltb-false}
use Rattle.masking.specs.Leak.{Found, first_setting, or_else, first_wire}
use Rattle.netlist.proofs.Tests.{on_bool}

-- what holds below n and at n holds below n + 1
below_more : (P : ℕ → Type 0) (n : ℕ) → ((u : ℕ) → u < n → P u) → P n → (u : ℕ) → u < n + 1 → P u
below_more P n h p u l = on_bool (ltb u n) (λ t. h u (ltb-true u n t)) (λ t. let k = ltb-false u n t in let e : n ≡ u
    = omega arith in subst P e p)

-- there is one first number that lacks a property
least-unique : (P : ℕ → Type 0) (i j : ℕ) → ((u : ℕ) → u < i → P u) → (P i → ⊥) → ((u : ℕ) → u < j → P u) → (P j → ⊥)
    → i ≡ j
least-unique P i j hi ni hj nj =
    on_bool (ltb i j) (λ t. absurd (ni (hj i (ltb-true i j t))))
    (λ t. on_bool (ltb j i) (λ s. absurd (nj (hi j (ltb-true j i s)))) (λ s. let k = ltb-false i j t in let l
    = ltb-false j i s in omega arith))

module _ (f g : ℕ → ℕ → ℕ) where
  -- the two counts of wire w agree in all settings below S
  abbrev pub Agree : ℕ → ℕ → Type 0
  Agree S w = (s : ℕ) → s < S → f w s ≡ g w s

  -- x holds the first setting below S in which they do not, and both counts there
  pub record Differs (S w : ℕ) (x : Found) : Type 0 where
    pub at : x.at < S
    pub smaller : Agree x.at w
    pub other : f w x.at ≢ g w x.at
    pub base : x.base ≡ f w x.at
    pub own : x.own ≡ g w x.at

  -- x holds the first wire below W with such a setting
  pub record First (S W : ℕ) (x : Found) : Type 0 where
    pub wire : x.wire < W
    pub lower : (w : ℕ) → w < x.wire → Agree S w
    pub differs : Differs S x.wire x

  -- what a search of all wires below W and all settings below S is to give
  abbrev pub Searched : ℕ → ℕ → Option Found → Type 0
  Searched S W none = (w : ℕ) → w < W → Agree S w
  Searched S W (some x) = First S W x

  -- ---- the search gives it

  abbrev Settled : ℕ → ℕ → Option Found → Type 0
  Settled S w none = Agree S w
  Settled S w (some x) = (x.wire ≡ w) × Differs S w x

  settled : {S : ℕ} (w left s : ℕ) → Agree s w → s + left ≡ S → Settled S w (first_setting f g w left s)
  settled w zero s h e = λ u l. h u (omega arith)
  settled w (suc left) s h e =
      on_bool (eqb (f w s) (g w s))
      (λ t. rw (t, first_setting)
      (settled w left (s + 1) (below_more (λ u. f w u ≡ g w u) s h (eqb-true (f w s) (g w s) t)) (omega arith)))
      (λ t. rw (t, first_setting) (
        refl,
        record {
          at = omega arith;
          smaller = h;
          other = eqb-false (f w s) (g w s) t;
          base = refl;
          own = refl;
        },
      ))

  searched : {S W : ℕ} (left w : ℕ) → ((v : ℕ) → v < w → Agree S v) → w + left ≡ W
      → Searched S W (first_wire f g S left w)
  searched zero w h e = λ v l. h v (omega arith)
  searched {S} {W} (suc left) w h e = go (first_setting f g w S 0)
      (settled w S 0 (λ u l. absurd (omega arith)) (omega arith)) (searched left (w + 1))
    where
      go : (o : Option Found) → Settled S w o → (((v : ℕ) → v < w + 1 → Agree S v) → w + 1 + left ≡ W
          → Searched S W (first_wire f g S left (w + 1)))
          → Searched S W (or_else o (first_wire f g S left (w + 1)))
      go none a later = later (below_more (Agree S) w h a) (omega arith)
      go (some x) d later =
          let l : x.wire < W = omega (arith, d.0) in
          record {
            wire = l;
            lower = subst (λ (n : ℕ). (v : ℕ) → v < n → Agree S v) (sym d.0) h;
            differs = subst (λ (n : ℕ). Differs S n x) (sym d.0) d.1;
          }

  pub search : (S W : ℕ) → Searched S W (first_wire f g S W 0)
  search S W = searched W 0 (λ v l. absurd (omega arith)) (omega arith)

  -- ---- there is one such answer

  first-unique : {S W : ℕ} {x y : Found} → First S W x → First S W y → x ≡ y
  first-unique {S} {W} {x} {y} a b =
      let w : x.wire ≡ y.wire = least-unique (Agree S) x.wire y.wire a.lower (breaks a) b.lower (breaks b) in
      let p = a.differs in
      let q : Differs S x.wire y = subst (λ (n : ℕ). Differs S n y) (sym w) b.differs in
      let s : x.at ≡ y.at = least-unique (λ u. f x.wire u ≡ g x.wire u) x.at y.at p.smaller p.other q.smaller q.other in
      let m : x.base ≡ y.base = p.base ∙ ap (f x.wire) s ∙ sym q.base in
      let n : x.own ≡ y.own = p.own ∙ ap (g x.wire) s ∙ sym q.own in
      λ i. record { wire = w i; at = s i; base = m i; own = n i }
    where
      breaks : {z : Found} → First S W z → Agree S z.wire → ⊥
      breaks {z} c h = c.differs.other (h z.at c.differs.at)

  searched-unique : (S W : ℕ) (o p : Option Found) → Searched S W o → Searched S W p → o ≡ p
  searched-unique S W none none a b = refl
  searched-unique S W none (some y) a b = absurd (b.differs.other (a y.wire b.wire y.at b.differs.at))
  searched-unique S W (some x) none a b = absurd (a.differs.other (b x.wire a.wire x.at a.differs.at))
  searched-unique S W (some x) (some y) a b = ap some (first-unique a b)

  -- the one answer, however it was found
  pub search_is : (S W : ℕ) (o : Option Found) → Searched S W o → o ≡ first_wire f g S W 0
  search_is S W o h = searched-unique S W o (first_wire f g S W 0) h (search S W)
