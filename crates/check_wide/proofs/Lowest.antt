-- The leak of the lowest wire that does not meet the rule, from the first painted setting that differs.
use Prim.Native.Nat.{ℕ, zero, suc, ◌+◌, ◌*◌, ◌/◌, ◌%◌, ◌^◌, ◌≤◌, ◌<◌}
use mathlib.Core.Path.{◌≡◌, sym, ap, ◌∙◌, subst}
use mathlib.Core.Bool.{Bool, true, false}
use mathlib.Core.List.{List, [], ◌∷◌}
use mathlib.Core.Option.{none, some}
use native.Mathlib.Omega.{arith}
use lib.Dec.{T, eqb, ltb}
use lib.ListN.{length, get_or}
use borrow.Author.Tests.{ltb-true, ltb-false}
use Rattle.netlist.specs.Netlist.{Netlist}
use Rattle.masking.specs.Leak.{setting, count_at, base_at, leak}
use Rattle.netlist.proofs.Tests.{on_bool}
use Rattle.masking.proofs.Settings.{length-setting}
use Rattle.masking.proofs.Search.{search_is}
use Rattle.evaluate.specs.Lane.{lane}
use Rattle.leak_search.specs.Paint.{colour_of, codes_of, shade, paint}
use Rattle.leak_search.specs.Base.{count_in}
use Rattle.leak_search.proofs.Paints.{length-codes_of, length-paint, paint-at}
use Rattle.check_wide.specs.Reach.{reaches, size, places, reach}
use Rattle.check_wide.specs.Sets.{reach_set, picked}
use Rattle.check_wide.specs.Rule.{Level, colour_at}
use Rattle.check_wide.specs.Wide.{listed}
use Rattle.check_wide.proofs.Alike.{Alike, base-alike, count-alike}
use Rattle.check_wide.proofs.Marks.{length-marks, marks-at}
use Rattle.check_wide.proofs.Spread.{spread, gather, spread-below, gather-below, spread-upto, gathered-at}
use Rattle.check_wide.proofs.ColoursLaws.{rank, rank-at}
use Rattle.check_wide.proofs.Picked.{picked-places}

-- a marked bit of a spread setting is the bit of its rank
spread_at : (ks : List Bool) (t i : ℕ) → T (get_or ks i false) → get_or (setting (length ks) (spread ks t)) i false
    ≡ lane (rank ks i) t
spread_at [] t i k = absurd k
spread_at (true ∷ ks) t zero k = let X = spread ks (t / 2) in let e : (t % 2 + 2 * X) % 2 ≡ t % 2 = omega arith
    in ap (λ (m : ℕ). eqb m 1) e
spread_at (true ∷ ks) t (suc i) k =
    let X = spread ks (t / 2) in
    let e : (t % 2 + 2 * X) / 2 ≡ X = omega arith in
    ap (λ (m : ℕ). get_or (setting (length ks) m) i false) e ∙ spread_at ks (t / 2) i k
spread_at (false ∷ ks) t zero k = absurd k
spread_at (false ∷ ks) t (suc i) k =
    let X = spread ks t in
    let e : 2 * X / 2 ≡ X = omega arith in
    ap (λ (m : ℕ). get_or (setting (length ks) m) i false) e ∙ spread_at ks t i k

-- no wire differs
pub level-clean : (N : Netlist) (codes : List ℕ) → ((w : ℕ) → w < N.wires → Level N codes w) → leak N codes ≡ none
unfolding leak
level-clean N codes h = sym (search_is (base_at N codes) (count_at N codes) (2 ^ length codes) N.wires none h)

-- the inputs that reach wire w have the colours 1, 2, 3 and so on
module _ (N : Netlist) (ps : List ℕ) (w : ℕ) (fits : length (codes_of ps) + 2 ≤ N.wires)
    (ranked : (a : ℕ) → a < length (reach_set N (length ps) w) → colour_at (reach_set N (length ps) w) ps a ≡ a + 1)
  where
    abbrev codes : List ℕ
    codes = codes_of ps

    abbrev n : ℕ
    n = length codes

    abbrev ks : List Bool
    ks = reach N (length ps) w

    long : length ks ≡ n
    long = length-marks (λ i. reaches N i w) 0 (length ps) ∙ sym (length-codes_of ps)

    -- a reached input is marked
    marked : (i : ℕ) → i < n → T (reaches N i w) → T (get_or ks i false)
    marked i l r =
        let e : 0 + i ≡ i = omega arith in
        let k = length-codes_of ps in
        subst T (sym (marks-at (λ i. reaches N i w) 0 (length ps) i (omega arith) ∙ ap (λ (j : ℕ). reaches N j w) e)) r

    -- the setting that a number's colours give, and the one that they stand for, agree where it matters
    painted-alike : (t : ℕ) → Alike N codes w (paint ps t) (setting n (spread ks t))
    painted-alike t = record {
      left = length-paint ps t ∙ sym (length-codes_of ps);
      right = length-setting n (spread ks t);
      each = λ i l r.
          let m = marked i l r in
          let e = length-codes_of ps in
          let k = rank-at ks 0 i m in
          let z : 0 + i ≡ i = omega arith in
          let c : colour_of (get_or ps i 0) ≡ suc (rank ks i) = ap (λ (j : ℕ). colour_of (get_or ps j 0))
          (sym (k.1 ∙ z))
          ∙ ranked (rank ks i) k.0 ∙ omega arith in
          paint-at ps t i (omega arith) ∙ ap (λ (d : ℕ). shade d t) c ∙ sym (spread_at ks t i m)
          ∙ ap (λ (m : ℕ). get_or (setting m (spread ks t)) i false) long;
    }

    own_at : (t : ℕ) → count_in N true ps w t ≡ count_at N codes w (spread ks t)
    own_at t = count-alike N codes fits (painted-alike t)

    base-at : (t : ℕ) → count_in N false ps w t ≡ base_at N codes w (spread ks t)
    base-at t = count-alike N codes fits (base-alike N codes (painted-alike t))

    -- every setting agrees with one of them where it matters
    gathered-alike : (s : ℕ) → Alike N codes w (setting n s) (setting n (spread ks (gather ks s)))
    gathered-alike s = record {
      left = length-setting n s;
      right = length-setting n (spread ks (gather ks s));
      each = λ i l r. subst (λ (m : ℕ). get_or (setting m s) i false ≡ get_or (setting m (spread ks (gather ks s))) i
          false) long
          (gathered-at ks s i (marked i l r));
    }

    own-gathered : (s : ℕ) → count_at N codes w s ≡ count_in N true ps w (gather ks s)
    own-gathered s = count-alike N codes fits (gathered-alike s) ∙ sym (own_at (gather ks s))

    base-gathered : (s : ℕ) → base_at N codes w s ≡ count_in N false ps w (gather ks s)
    base-gathered s = count-alike N codes fits (base-alike N codes (gathered-alike s)) ∙ sym (base-at (gather ks s))

    -- a wire without a difference in the numbers below 2^k, k inputs reaching it, meets the rule
    pub ranked-level : ((t : ℕ) → t < 2 ^ size ks → count_in N false ps w t ≡ count_in N true ps w t) → Level N codes w
    ranked-level h s l = base-gathered s ∙ h (gather ks s) (gather-below ks s) ∙ sym (own-gathered s)

    module _ (t base own : ℕ) (inside : w < N.wires) (lower : (v : ℕ) → v < w → Level N codes v)
        (smaller : (u : ℕ) → u < t → count_in N false ps w u ≡ count_in N true ps w u) (other : count_in N false ps w t
        ≡ count_in N true ps w t → ⊥)
        (is_base : base ≡ count_in N false ps w t) (is_own : own ≡ count_in N true ps w t) where
      leak-at : leak N codes ≡ some (record { wire = w; at = spread ks t; base = base; own = own })
      unfolding leak
      leak-at =
          sym (search_is (base_at N codes) (count_at N codes) (2 ^ n) N.wires
          (some (record { wire = w; at = spread ks t; base = base; own = own }))
          (record {
            wire = inside;
            lower = lower;
            differs = record {
              at = subst (λ (m : ℕ). spread ks t < 2 ^ m) long (spread-below ks t);
              smaller = λ s l. on_bool (ltb (gather ks s) t)
                  (λ b. base-gathered s ∙ smaller (gather ks s) (ltb-true (gather ks s) t b) ∙ sym (own-gathered s))
                  (λ b. let h = spread-upto ks s t (ltb-false (gather ks s) t b) in absurd (omega arith));
              other = λ e. other (base-at t ∙ e ∙ sym (own_at t));
              base = is_base ∙ base-at t;
              own = is_own ∙ own_at t;
            };
          }))

      pub lowest-listed : listed n (leak N codes)
          ≡ some (record { wire = w; ones = picked (reach_set N (length ps) w) t; base = base; own = own })
      lowest-listed =
          ap (listed n) leak-at
          ∙ ap (λ (is : List ℕ). some (record { wire = w; ones = is; base = base; own = own }))
          (sym (picked-places 0 ks t ∙ ap (λ (m : ℕ). places 0 (setting m (spread ks t))) long))
