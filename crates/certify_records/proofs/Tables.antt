-- The places of a table that are exchanged, and those that are compared.
use mathlib.Core.Path.{◌≡◌, refl, sym, ap, ap₂, ◌∙◌}
use mathlib.Core.Bool.{Bool, true, false, cond, not, ◌&&◌}
use Prim.Native.Nat.{ℕ, ◌+◌, ◌-◌, ◌*◌, ◌/◌, ◌%◌, ◌^◌, ◌≤◌, ◌<◌}
use native.Mathlib.Nat.{div-add-mod'}
use native.Mathlib.Omega.{arith}
use lib.Dec.{T, eqb, leb, ltb, eqb→eq, leb→le, ltb→lt}
use lib.Bits.{bit_and, bit_xor}
use borrow.Author.Tests.{leb-true, leb-false}
use lib.Pow.{pow_pos}
use Rattle.netlist.specs.Eval.{differs}
use Rattle.netlist.specs.Lists.{below}
use Rattle.netlist.proofs.EachNumber.{below_at, same, same-below}
use Rattle.netlist.proofs.Tests.{on_bool, both, both_true, is_true, is_false}
use Rattle.evaluate.specs.Lane.{lane}
use Rattle.evaluate.proofs.Lanes.{lane_and, lane_xor, lane-zero}
use Rattle.leak_search.proofs.Numbers.{lane-shift, low-lane, high_lane}
use Rattle.certify_records.specs.Place.{other_bit, exchanged, turned, exchanges_at, turns_at}

-- the lanes of a word that is shifted up, and of the low part of a number
up-low : (k l x : ℕ) → l < k → lane l (x * 2 ^ k) ≡ false
up-low k l x h = let e : x * 2 ^ k ≡ x * 2 ^ k + 0 = omega arith in ap (lane l) e ∙ low-lane k l x 0 h ∙ lane-zero l

up-high : (k l x : ℕ) → k ≤ l → lane l (x * 2 ^ k) ≡ lane (l - k) x
up-high k l x h = let e : x * 2 ^ k ≡ x * 2 ^ k + 0 = omega arith in ap (lane l) e ∙ high_lane k l x 0 (pow_pos k) h

pub lane-mod : (k l n : ℕ) → l < k → lane l (n % 2 ^ k) ≡ lane l n
lane-mod k l n h = sym (low-lane k l (n / 2 ^ k) (n % 2 ^ k) h) ∙ ap (lane l) (div-add-mod' n (2 ^ k))

-- bits that differ twice
twice : (a b : Bool) → differs (differs a (differs b a)) false ≡ b
twice true true = refl
twice true false = refl
twice false true = refl
twice false false = refl

once : (a b : Bool) → differs (differs a false) (differs a b) ≡ b
once true true = refl
once true false = refl
once false true = refl
once false false = refl

never : (a : Bool) → differs (differs a false) false ≡ a
never true = refl
never false = refl

pub and_no : (a : Bool) → (a && false) ≡ false
and_no true = refl
and_no false = refl

pub and_yes : (a : Bool) → (a && true) ≡ a
and_yes true = refl
and_yes false = refl

equal-bits : (a b : Bool) → differs a b ≡ false → b ≡ a
equal-bits true true e = refl
equal-bits true false e = sym e
equal-bits false true e = e
equal-bits false false e = refl

module _ (t by moved : ℕ) where
  abbrev change : ℕ
  change = bit_and (bit_xor (t / 2 ^ by) t) moved

  change-at : (l : ℕ) → lane l change ≡ (differs (lane (l + by) t) (lane l t) && lane l moved)
  change-at l =
      lane_and l (bit_xor (t / 2 ^ by) t) moved
      ∙ ap (λ (b : Bool). b && lane l moved) (lane_xor l (t / 2 ^ by) t ∙ ap (λ (b : Bool). differs b (lane l t))
      (lane-shift by l t))

  change-no : (l : ℕ) → lane l moved ≡ false → lane l change ≡ false
  change-no l e = change-at l ∙ ap (λ (b : Bool). differs (lane (l + by) t) (lane l t) && b) e
      ∙ and_no (differs (lane (l + by) t) (lane l t))

  change-yes : (l : ℕ) → lane l moved ≡ true → lane l change ≡ differs (lane (l + by) t) (lane l t)
  change-yes l e = change-at l ∙ ap (λ (b : Bool). differs (lane (l + by) t) (lane l t) && b) e
      ∙ and_yes (differs (lane (l + by) t) (lane l t))

  -- what comes up to a place
  abbrev risen : ℕ
  risen = change * 2 ^ by % 2 ^ 64

  risen-no : (l : ℕ) → l < 64 → (leb by l && lane (l - by) moved) ≡ false → lane l risen ≡ false
  risen-no l h e =
      lane-mod 64 l (change * 2 ^ by) h
      ∙ on_bool (leb by l)
      (λ s. up-high by l change (leb-true by l s) ∙ change-no (l - by)
      (ap (λ (b : Bool). b && lane (l - by) moved) (sym s) ∙ e))
      (λ s. let f = leb-false by l s in up-low by l change (omega arith))

  risen-yes : (l : ℕ) → l < 64 → by ≤ l → lane (l - by) moved ≡ true → lane l risen
      ≡ differs (lane l t) (lane (l - by) t)
  risen-yes l h s e =
      let f : l - by + by ≡ l = omega arith in
      lane-mod 64 l (change * 2 ^ by) h ∙ up-high by l change s ∙ change-yes (l - by) e
      ∙ ap (λ (k : ℕ). differs (lane k t) (lane (l - by) t)) f

  result-at : (l : ℕ) → lane l (bit_xor (bit_xor t change) risen) ≡ differs (differs (lane l t) (lane l change))
      (lane l risen)
  result-at l = lane_xor l (bit_xor t change) risen ∙ ap (λ (b : Bool). differs b (lane l risen)) (lane_xor l t change)

  test : ℕ → ℕ → Bool
  test j l =
      cond (lane l moved) (eqb (exchanged j l) (l + by) && not (leb by l && lane (l - by) moved))
      (cond (leb by l && lane (l - by) moved) (eqb (exchanged j l) (l - by)) (eqb (exchanged j l) l))

  pub exchange-law : (j : ℕ) → T (exchanges_at j by moved) → (l : ℕ) → l < 64
      → lane l (bit_xor (bit_xor t change) risen) ≡ lane (exchanged j l) t
  unfolding test
  exchange-law j ok l h =
      let p : T (test j l) = below_at 64 (test j) ok l h in
      on_bool (lane l moved)
      (λ e.
      let q = both (eqb (exchanged j l) (l + by)) (not (leb by l && lane (l - by) moved)) (rw e at p) in
      result-at l
      ∙ ap₂ (λ (a b : Bool). differs (differs (lane l t) a) b) (change-yes l e)
      (risen-no l h (is_false (leb by l && lane (l - by) moved) q.1))
      ∙ twice (lane l t) (lane (l + by) t)
      ∙ ap (λ (k : ℕ). lane k t) (sym (eqb→eq (exchanged j l) (l + by) q.0)))
      (λ e.
      on_bool (leb by l && lane (l - by) moved)
      (λ f.
      let q : T (eqb (exchanged j l) (l - by)) = rw f at (rw e at p) in
      let s = both_true (leb by l) (lane (l - by) moved) f in
      result-at l
      ∙ ap₂ (λ (a b : Bool). differs (differs (lane l t) a) b) (change-no l e) (risen-yes l h (leb-true by l s.0) s.1)
      ∙ once (lane l t) (lane (l - by) t)
      ∙ ap (λ (k : ℕ). lane k t) (sym (eqb→eq (exchanged j l) (l - by) q)))
      (λ f.
      let q : T (eqb (exchanged j l) l) = rw f at (rw e at p) in
      result-at l
      ∙ ap₂ (λ (a b : Bool). differs (differs (lane l t) a) b) (change-no l e) (risen-no l h f)
      ∙ never (lane l t)
      ∙ ap (λ (k : ℕ). lane k t) (sym (eqb→eq (exchanged j l) l q))))

module _ (t by low : ℕ) (zero : bit_and (bit_xor (t / 2 ^ by) t) low ≡ 0) where
  low_same : (l : ℕ) → lane l low ≡ true → lane l t ≡ lane (l + by) t
  low_same l e = equal-bits (lane (l + by) t) (lane l t) (sym (change-yes t by low l e) ∙ ap (lane l) zero
      ∙ lane-zero l)

  pub independent-law : (j : ℕ) → T (turns_at j by low) → (l : ℕ) → l < 64 → lane l t ≡ lane (turned j l) t
  independent-law j ok l h =
      let p = below_at 64 (λ l. cond (lane l low) (eqb (turned j l) (l + by))
      (leb by l && (lane (l - by) low && eqb (turned j l) (l - by)))) ok l h in
      on_bool (lane l low)
      (λ e. low_same l e ∙ ap (λ (k : ℕ). lane k t) (sym (eqb→eq (turned j l) (l + by) (rw e at p))))
      (λ e.
      let q = both (leb by l) (lane (l - by) low && eqb (turned j l) (l - by)) (rw e at p) in
      let s = both (lane (l - by) low) (eqb (turned j l) (l - by)) q.1 in
      let u = leb→le by l q.0 in
      let f : l - by + by ≡ l = omega arith in
      ap (λ (k : ℕ). lane k t) (sym f)
      ∙ sym (low_same (l - by) (is_true (lane (l - by) low) s.0))
      ∙ ap (λ (k : ℕ). lane k t) (sym (eqb→eq (turned j l) (l - by) s.1)))

-- the bits of an exchanged place, and of a turned one
pub exchanged-bit : (j i l : ℕ) → j < 3 → i < 6 → l < 64 → lane i (exchanged j l) ≡ lane (other_bit j i) l
exchanged-bit j i l p q h =
    same-below 64 (λ l. lane i (exchanged j l)) (λ l. lane (other_bit j i) l)
    (below_at 6 (λ i. below 64 (λ l. same (lane i (exchanged j l)) (lane (other_bit j i) l)))
    (below_at 3 (λ j. below 6 (λ i. below 64 (λ l. same (lane i (exchanged j l)) (lane (other_bit j i) l)))) tt j p) i
    q) l h

pub exchanged-below : (j l : ℕ) → j < 3 → l < 64 → exchanged j l < 64
exchanged-below j l p h =
    ltb→lt (exchanged j l) 64 (below_at 64 (λ l. ltb (exchanged j l) 64)
    (below_at 3 (λ j. below 64 (λ l. ltb (exchanged j l) 64)) tt j p) l h)

pub turned_bit : (j i l : ℕ) → j < 4 → i < 6 → l < 64 → lane i (turned j l) ≡ differs (eqb i (j + 2)) (lane i l)
turned_bit j i l p q h =
    same-below 64 (λ l. lane i (turned j l)) (λ l. differs (eqb i (j + 2)) (lane i l))
    (below_at 6 (λ i. below 64 (λ l. same (lane i (turned j l)) (differs (eqb i (j + 2)) (lane i l))))
    (below_at 4 (λ j. below 6 (λ i. below 64 (λ l. same (lane i (turned j l)) (differs (eqb i (j + 2)) (lane i l))))) tt
    j p) i q) l h

pub turned-mask : (j i l : ℕ) → j < 4 → i < 2 → l < 64 → lane i (turned j l) ≡ lane i l
turned-mask j i l p q h =
    same-below 64 (λ l. lane i (turned j l)) (λ l. lane i l)
    (below_at 2 (λ i. below 64 (λ l. same (lane i (turned j l)) (lane i l)))
    (below_at 4 (λ j. below 2 (λ i. below 64 (λ l. same (lane i (turned j l)) (lane i l)))) tt j p) i q) l h

pub turned-below : (j l : ℕ) → j < 4 → l < 64 → turned j l < 64
turned-below j l p h =
    ltb→lt (turned j l) 64 (below_at 64 (λ l. ltb (turned j l) 64)
    (below_at 4 (λ j. below 64 (λ l. ltb (turned j l) 64)) tt j p) l h)

pub exchanged-mask : (j i l : ℕ) → j < 3 → i < 2 → l < 64 → lane i (exchanged j l) ≡ lane i l
exchanged-mask j i l p q h =
    same-below 64 (λ l. lane i (exchanged j l)) (λ l. lane i l)
    (below_at 2 (λ i. below 64 (λ l. same (lane i (exchanged j l)) (lane i l)))
    (below_at 3 (λ j. below 2 (λ i. below 64 (λ l. same (lane i (exchanged j l)) (lane i l)))) tt j p) i q) l h
