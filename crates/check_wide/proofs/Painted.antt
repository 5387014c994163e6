-- A wire whose inputs have different colours meets the rule exactly if it does in the settings that the colours give;
-- so does a pair.
use Prim.Native.Nat.{ℕ, zero, suc, ◌+◌, ◌-◌, ◌/◌, ◌^◌, ◌≤◌, ◌<◌}
use mathlib.Core.Path.{◌≡◌, refl, sym, ap, ◌∙◌, subst}
use mathlib.Core.Bool.{Bool, true, false, ◌&&◌, ◌||◌}
use mathlib.Core.List.{List}
use native.Mathlib.Omega.{arith}
use lib.Dec.{T, eqb, ltb, eqb→eq, eqb_refl}
use lib.ListN.{length, get_or}
use borrow.Author.Tests.{ltb-true, ltb-false}
use Rattle.netlist.specs.Netlist.{Netlist}
use Rattle.masking.specs.Leak.{setting, count, public_only}
use Rattle.netlist.proofs.Tests.{on_bool, both, pair, either, or_left, or_right, is_true}
use Rattle.masking.proofs.Settings.{length-setting, number_of, number_of-below, setting-number_of}
use Rattle.evaluate.specs.Lane.{lane}
use Rattle.leak_search.specs.Paint.{colour_of, codes_of, shade, paint}
use Rattle.leak_search.specs.Base.{count_in}
use Rattle.leak_search.proofs.Paints.{length-codes_of, length-paint, paint-at}
use Rattle.check_pairs.specs.Pairs.{clean_pair}
use Rattle.check_pairs.proofs.PairCheck.{ThreeAsBase, passes-three, three-passes}
use Rattle.check_wide.specs.Reach.{reaches, marks}
use Rattle.check_wide.specs.Sets.{reach_set, pair_set}
use Rattle.check_wide.specs.Rule.{Level, Different}
use Rattle.check_wide.proofs.Alike.{Alike, base-alike, count-alike, both-alike}
use Rattle.check_wide.proofs.Marks.{length-marks, marks-at}
use Rattle.check_wide.proofs.Merges.{merge-marks}
use Rattle.check_wide.proofs.ColoursLaws.{Rainbow, different-rainbow}

same_test : (a b : Bool) → (T a → T b) → (T b → T a) → a ≡ b
same_test true b f g = sym (is_true b (f tt))
same_test false true f g = absurd (g tt)
same_test false false f g = refl

-- a test of some number below k
any_below : (ℕ → Bool) → ℕ → Bool
any_below t zero = false
any_below t (suc k) = any_below t k || t k

any-from : (t : ℕ → Bool) (k i : ℕ) → i < k → T (t i) → T (any_below t k)
unfolding any_below
any-from t zero i l h = absurd (omega arith)
any-from t (suc k) i l h =
    on_bool (ltb i k)
    (λ b. or_left (any_below t k) (t k) (any-from t k i (ltb-true i k b) h))
    (λ b. let m = ltb-false i k b in let e : i ≡ k = omega arith in or_right (any_below t k) (t k) (rw e at h))

any-to : {P : Type 0} (t : ℕ → Bool) (k : ℕ) → ((i : ℕ) → i < k → T (t i) → P) → T (any_below t k) → P
unfolding any_below
any-to t zero f h = absurd h
any-to t (suc k) f h = either (any_below t k) (t k) (any-to t k (λ i l. f i (omega arith))) (f k (omega arith)) h

pub setting-at : (k s i : ℕ) → i < k → get_or (setting k s) i false ≡ lane i s
setting-at zero s i l = absurd (omega arith)
setting-at (suc k) s zero l = refl
setting-at (suc k) s (suc i) l = setting-at k (s / 2) i (omega arith)

-- the number whose bits are given
numbered : (t : ℕ → Bool) (k c : ℕ) → c < k → lane c (number_of (marks t 0 k)) ≡ t c
numbered t k c l =
    let x = marks t 0 k in
    let e : setting k (number_of x) ≡ x = ap (λ (n : ℕ). setting n (number_of x)) (sym (length-marks t 0 k))
    ∙ setting-number_of x in
    let z : 0 + c ≡ c = omega arith in
    sym (setting-at k (number_of x) c l) ∙ ap (λ (y : List Bool). get_or y c false) e ∙ marks-at t 0 k c l ∙ ap t z

-- no input has a colour above K
abbrev pub Upto : ℕ → List ℕ → Type 0
Upto K ps = (i : ℕ) → i < length ps → colour_of (get_or ps i 0) ≤ K

-- the number that gives the bits of x to the inputs of a set with different colours
module _ (within : ℕ → Bool) (ps : List ℕ) (K : ℕ) (R : Rainbow within ps) (upto : Upto K ps) (x : List Bool) where
  chosen : ℕ → Bool
  chosen c = any_below (λ i. within i && (eqb (colour_of (get_or ps i 0)) (suc c) && get_or x i false)) (length ps)

  number : ℕ
  number = number_of (marks chosen 0 K)

  number-below : number < 2 ^ K
  unfolding number
  number-below = subst (λ (n : ℕ). number < 2 ^ n) (length-marks chosen 0 K) (number_of-below (marks chosen 0 K))

  chosen_is : (i c : ℕ) → i < length ps → T (within i) → colour_of (get_or ps i 0) ≡ suc c → chosen c ≡ get_or x i false
  unfolding chosen
  chosen_is i c l r e =
      let t : ℕ → Bool = λ i. within i && (eqb (colour_of (get_or ps i 0)) (suc c) && get_or x i false) in
      same_test (chosen c) (get_or x i false)
      (any-to t (length ps) λ j m h.
      let b = both (within j) (eqb (colour_of (get_or ps j 0)) (suc c) && get_or x j false) h in
      let d = both (eqb (colour_of (get_or ps j 0)) (suc c)) (get_or x j false) b.1 in
      let k : j ≡ i = R.apart j i m l b.0 r (eqb→eq (colour_of (get_or ps j 0)) (suc c) d.0 ∙ sym e) in
      rw k at d.1)
      (λ h. any-from t (length ps) i l
      (pair (within i) (eqb (colour_of (get_or ps i 0)) (suc c) && get_or x i false) r
      (pair (eqb (colour_of (get_or ps i 0)) (suc c)) (get_or x i false)
      (subst (λ (d : ℕ). T (eqb d (suc c))) (sym e) (eqb_refl (suc c))) h)))

  number_at : (i : ℕ) → i < length ps → T (within i) → get_or x i false ≡ get_or (paint ps number) i false
  unfolding number
  number_at i l r =
      let d = colour_of (get_or ps i 0) in
      let c = d - 1 in
      let p = R.some i l r in
      let q = upto i l in
      let e : d ≡ suc c = omega arith in
      sym (paint-at ps number i l ∙ ap (λ (d : ℕ). shade d number) e ∙ numbered chosen K c (omega arith)
      ∙ chosen_is i c l r e)

module _ (N : Netlist) (ps : List ℕ) where
  abbrev codes : List ℕ
  codes = codes_of ps

  length-painted : (t : ℕ) → length (paint ps t) ≡ length codes
  length-painted t = length-paint ps t ∙ sym (length-codes_of ps)

  -- painted settings are settings
  pub painted-setting : (t : ℕ) → setting (length codes) (number_of (paint ps t)) ≡ paint ps t
  painted-setting t = ap (λ (n : ℕ). setting n (number_of (paint ps t))) (sym (length-painted t))
      ∙ setting-number_of (paint ps t)

  painted-below : (t : ℕ) → number_of (paint ps t) < 2 ^ length codes
  painted-below t = subst (λ (n : ℕ). number_of (paint ps t) < 2 ^ n) (length-painted t) (number_of-below (paint ps t))

  -- the rule holds in painted settings where it holds in all
  pub level-painted : (w : ℕ) → Level N codes w → (t : ℕ) → count_in N false ps w t ≡ count_in N true ps w t
  level-painted w h t =
      subst (λ (x : List Bool). count N codes w (public_only codes x) ≡ count N codes w x) (painted-setting t)
      (h (number_of (paint ps t)) (painted-below t))

  pub clean-painted : (u v : ℕ) → T (clean_pair N codes u v) → (t : ℕ) → ThreeAsBase N codes u v (paint ps t)
  clean-painted u v h t =
      subst (ThreeAsBase N codes u v) (painted-setting t) (passes-three N codes u v h (number_of (paint ps t))
      (painted-below t))

  -- and what holds in painted settings of whatever depends on a set alone holds in all
  module _ (fits : length codes + 2 ≤ N.wires) (K : ℕ) (upto : Upto K ps) where
    module _ (within : ℕ → Bool) (R : Rainbow within ps) (s : ℕ) where
      abbrev x : List Bool
      x = setting (length codes) s

      abbrev t : ℕ
      t = number within ps K R upto x

      number-alike : (w : ℕ) → ((i : ℕ) → T (reaches N i w) → T (within i)) → Alike N codes w x (paint ps t)
      number-alike w h = record {
        left = length-setting (length codes) s;
        right = length-painted t;
        each = λ i l r. number_at within ps K R upto x i (let e = length-codes_of ps in omega arith) (h i r);
      }

    pub painted-level : (w : ℕ) → Different (reach_set N (length ps) w) ps
        → ((t : ℕ) → t < 2 ^ K → count_in N false ps w t ≡ count_in N true ps w t)
        → Level N codes w
    painted-level w D h s l =
        let r : ℕ → Bool = λ i. reaches N i w in
        let R = different-rainbow r ps D in
        let A = number-alike r R s w (λ i k. k) in
        count-alike N codes fits (base-alike N codes A)
        ∙ h (number r ps K R upto (setting (length codes) s)) (number-below r ps K R upto (setting (length codes) s))
        ∙ sym (count-alike N codes fits A)

    pub painted-clean : (u v : ℕ) → Different (pair_set N (length ps) u v) ps
        → ((t : ℕ) → t < 2 ^ K → ThreeAsBase N codes u v (paint ps t))
        → T (clean_pair N codes u v)
    painted-clean u v D h = three-passes N codes u v λ s l.
        let r : ℕ → Bool = λ i. reaches N i u || reaches N i v in
        let R = different-rainbow r ps (subst (λ (is : List ℕ). Different is ps)
        (merge-marks (λ i. reaches N i u) (λ i. reaches N i v) 0 (length ps)) D) in
        let A = number-alike r R s u (λ i k. or_left (reaches N i u) (reaches N i v) k) in
        let B = number-alike r R s v (λ i k. or_right (reaches N i u) (reaches N i v) k) in
        let p = h (number r ps K R upto (setting (length codes) s))
        (number-below r ps K R upto (setting (length codes) s)) in
        record {
          left = count-alike N codes fits (base-alike N codes A) ∙ p.left ∙ sym (count-alike N codes fits A);
          right = count-alike N codes fits (base-alike N codes B) ∙ p.right ∙ sym (count-alike N codes fits B);
          both = both-alike N codes fits (base-alike N codes A) (base-alike N codes B) ∙ p.both
              ∙ sym (both-alike N codes fits A B);
        }
