-- The words of a round, lane by lane, and the counts that they hold.
use mathlib.Core.Path.{◌≡◌, refl, sym, ap, ap₂, ◌∙◌, subst}
use mathlib.Core.Bool.{Bool, false, ◌&&◌}
use mathlib.Core.List.{List}
use mathlib.Core.Logic.{◌≢◌}
use Prim.Native.Nat.{ℕ, suc, ◌+◌, ◌*◌, ◌/◌, ◌%◌, ◌^◌, ◌<◌, ◌≤◌}
use native.Mathlib.Omega.{arith}
use lib.Dec.{eqb, ltb}
use lib.Bits.{bit_and, bit_xor}
use lib.ListN.{length, get_or, take, set, length-map, length-set}
use lib.Seq.{length-take-le, get_or-take, ext_get_or, get_or-set_same, get_or-set_other}
use borrow.Author.Tests.{eqb-true, eqb-false, ltb-true, ltb-false, ne_eqb}
use Rattle.netlist.specs.Netlist.{Netlist}
use Rattle.masking.specs.Mask.{is_public}
use Rattle.netlist.specs.Eval.{differs, bits_at, wire_bits, bit}
use Rattle.masking.specs.Leak.{mask_of, masked, public_only, count}
use Rattle.netlist.specs.Table.{Tables, Holds}
use Rattle.netlist.specs.Lists.{below}
use Rattle.netlist.proofs.EachNumber.{below_at, same, same-below}
use Rattle.netlist.proofs.Tests.{on_bool}
use Rattle.masking.proofs.Settings.{length-public_only, public_only-at}
use Rattle.evaluate.specs.Lane.{lane, lanes}
use Rattle.evaluate.specs.Bare.{bare}
use Rattle.evaluate.proofs.Lanes.{lane_and, lane_xor}
use Rattle.evaluate.proofs.Runs.{bare-wires}
use Rattle.evaluate.proofs.Steps.{get_d-lanes}
use Rattle.leak_search.specs.Block.{ones_of, nibbles_of}
use Rattle.leak_search.proofs.Inputs.{masked-long, masked-at, masked-m0, masked-m1}
use Rattle.leak_search.specs.declared.difference.Leak.{Leak}
use Rattle.leak_search.specs.Difference.{LowestDifference}
use Rattle.certify_records.proofs.Leaves.{chosen-lane}
use Rattle.certify_records.proofs.Tables.{and_no}
use Rattle.certify.specs.Pass.{Masked}
use Rattle.certify.proofs.InputWires.{MaskIs, mask-place, no-mask, differs_none, input-bit}
use Rattle.certify.specs.Round.{InputWord, Loaded, setting_in, Ran}
use Rattle.certify.specs.Search.{Looked}
use Rattle.certify.specs.Witness.{Witnessed}
use Rattle.std.specs.Prelude.{Option, Some, None}

-- the place of a setting's first lane has no mask bits
unmasked : (s : ℕ) → s < 16 → (lane 0 (4 * s) ≡ false) × (lane 1 (4 * s) ≡ false)
unmasked s h = (
  same-below 16 (λ s. lane 0 (4 * s)) (λ s. false) tt s h,
  same-below 16 (λ s. lane 1 (4 * s))
      (λ s. false) tt s h,
)

-- ---- the word of one input bit

module _ (noise code k : ℕ) (some : code ≢ 0) (mask : MaskIs k code) where
  abbrev bits : ℕ
  bits = bit_and noise 0xffff_ffff_ffff_fff0

  abbrev spread : ℕ
  spread = bit_and (bits / 2 ^ 2) 0x1111_1111_1111_1111 * 15

  secret-lane : (j : ℕ) → j < 64 → lane j (bit_xor spread k) ≡ differs (lane (2 + 4 * (j / 4)) bits)
      (mask_of (lane 0 j) (lane 1 j) code)
  secret-lane j h =
      let e : j ≡ j % 4 + 4 * (j / 4) = omega arith in
      lane_xor j spread k
      ∙ ap₂ differs (ap (λ (n : ℕ). lane n spread) e ∙ chosen-lane bits 2 (j / 4) (j % 4) (omega arith) (omega arith))
      (mask-place k code mask j h)

  secret-first : (s : ℕ) → s < 16 → lane (4 * s) (bit_xor spread k) ≡ lane (2 + 4 * s) bits
  secret-first s h =
      let e : 4 * s / 4 ≡ s = omega arith in
      let u = unmasked s h in
      secret-lane (4 * s) (omega arith) ∙ ap (λ (n : ℕ). differs (lane (2 + 4 * n) bits)
      (mask_of (lane 0 (4 * s)) (lane 1 (4 * s)) code)) e
      ∙ ap₂ (λ (a b : Bool). differs (lane (2 + 4 * s) bits) (mask_of a b code)) u.0 u.1
      ∙ ap (differs (lane (2 + 4 * s) bits)) (no-mask code) ∙ differs_none (lane (2 + 4 * s) bits)

  pub secret-word : InputWord code (bit_xor spread k)
  secret-word = record {
    masked = λ j h.
        secret-lane j h ∙ ap (λ (b : Bool). differs b (mask_of (lane 0 j) (lane 1 j) code))
        (sym (secret-first (j / 4) (omega arith)));
    base = λ s h.
        ap (λ (b : Bool). b && lane (4 * s) (bit_xor spread k)) (ne_eqb code 0 some)
        ∙ sym (secret-first 0 (omega arith) ∙ lane_and 2 noise 0xffff_ffff_ffff_fff0 ∙ and_no (lane 2 noise));
  }

-- ---- the words of all input wires

-- of the first i inputs
abbrev pub Loading : List ℕ → List ℕ → ℕ → Type 0
Loading codes ws i = (k : ℕ) → k < i → InputWord (get_or codes k 0) (get_or ws k 0)

pub loading-more : (codes ws : List ℕ) (i w : ℕ) → Loading codes ws i → i < length ws → InputWord (get_or codes i 0) w
    → Loading codes (set ws i w) (i + 1)
loading-more codes ws i w L h I k m =
    on_bool (eqb k i)
    (λ e.
    let z = eqb-true k i e in
    let f : get_or (set ws i w) k 0 ≡ w = ap (λ (n : ℕ). get_or (set ws i w) n 0) z ∙ get_or-set_same ws i w 0 h in
    subst (InputWord (get_or codes k 0)) (sym f) (subst (λ (n : ℕ). InputWord (get_or codes n 0) w) (sym z) I))
    (λ e.
    let n : k ≡ i → ⊥ = eqb-false k i e in
    subst (InputWord (get_or codes k 0)) (sym (get_or-set_other ws i k w 0 n)) (L k (omega arith)))

pub loading-all : (codes ws : List ℕ) {a b : ℕ} → Loading codes ws (length codes) → length codes + 2 ≤ length ws
    → MaskIs a 1 → MaskIs b 2
    → Loaded codes (set (set ws (length codes) a) (length codes + 1) b)
loading-all codes ws {a} {b} L room A B = record {
  inputs = λ k h.
      subst (InputWord (get_or codes k 0))
      (sym (get_or-set_other (set ws n a) (n + 1) k b 0 (λ z. omega arith) ∙ get_or-set_other ws n k a 0
      (λ z. omega arith)))
      (L k h);
  first = λ j h.
      ap (lane j) (get_or-set_other (set ws n a) (n + 1) n b 0 (λ z. omega arith)
      ∙ get_or-set_same ws n a 0 (omega arith)) ∙ mask-place a 1 A j h;
  second = λ j h.
      let e = length-set ws n a in
      ap (lane j) (get_or-set_same (set ws n a) (n + 1) b 0 (omega arith)) ∙ mask-place b 2 B j h;
}
  where
    n : ℕ
    n = length codes

-- ---- a round, lane by lane

module _ (codes ws : List ℕ) (room : length codes + 2 ≤ length ws) where
  at_take : (j m i : ℕ) → i < m → get_or (lanes j (take m ws)) i false ≡ lane j (get_or ws i 0)
  at_take j m i h = get_d-lanes j (take m ws) i ∙ ap (lane j) (get_or-take m ws i 0 h)

  long-take : (j m : ℕ) → m ≤ length ws → length (lanes j (take m ws)) ≡ m
  long-take j m h = length-map (take m ws) (lane j) ∙ length-take-le m ws h

  module _ (L : Loaded codes ws) where
    loaded-lane : (j : ℕ) → j < 64 → lanes j (take (length codes + 2) ws) ≡ masked (lane 0 j) (lane 1 j) codes
        (setting_in codes ws (j / 4))
    loaded-lane j h =
        let n = length codes in
        let x = setting_in codes ws (j / 4) in
        let lw = long-take j (n + 2) room in
        ext_get_or false (lanes j (take (n + 2) ws)) (masked (lane 0 j) (lane 1 j) codes x)
        (lw ∙ sym (masked-long (lane 0 j) (lane 1 j) codes x))
        (λ i m.
        at_take j (n + 2) i (omega arith)
        ∙ on_bool (ltb i n)
        (λ e.
        let l = ltb-true i n e in
        (L.inputs i l).masked j h
        ∙ ap (λ (b : Bool). differs b (mask_of (lane 0 j) (lane 1 j) (get_or codes i 0)))
        (sym (at_take (4 * (j / 4)) n i l))
        ∙ sym (masked-at (lane 0 j) (lane 1 j) codes x i l))
        (λ e.
        let l = ltb-false i n e in
        on_bool (eqb i n)
        (λ z.
        let q = eqb-true i n z in
        ap (λ (k : ℕ). lane j (get_or ws k 0)) q ∙ L.first j h
        ∙ sym (ap (λ (k : ℕ). get_or (masked (lane 0 j) (lane 1 j) codes x) k false) q ∙ masked-m0 (lane 0 j) (lane 1 j)
        codes x))
        (λ z.
        let q : i ≡ n → ⊥ = eqb-false i n z in
        let p : i ≡ n + 1 = omega arith in
        let r : i ≡ suc n = omega arith in
        ap (λ (k : ℕ). lane j (get_or ws k 0)) p ∙ L.second j h
        ∙ sym (ap (λ (k : ℕ). get_or (masked (lane 0 j) (lane 1 j) codes x) k false) r ∙ masked-m1 (lane 0 j) (lane 1 j)
        codes x))))

    loaded-base : (s : ℕ) → s < 16 → public_only codes (setting_in codes ws s) ≡ setting_in codes ws 0
    loaded-base s h =
        let n = length codes in
        let l = long-take 0 n (omega arith) in
        ext_get_or false (public_only codes (setting_in codes ws s)) (setting_in codes ws 0)
        (length-public_only codes (setting_in codes ws s) ∙ sym l)
        (λ i m.
        let p = length-public_only codes (setting_in codes ws s) in
        let k : i < n = omega arith in
        public_only-at codes (setting_in codes ws s) i k
        ∙ ap (λ (b : Bool). is_public (get_or codes i 0) && b) (at_take (4 * s) n i k)
        ∙ (L.inputs i k).base s h
        ∙ sym (at_take 0 n i k))

module _ {t : Tables} {m W n o : ℕ} {N : Netlist} (H : Holds t m W n o N) {codes : List ℕ} (M : Masked N codes)
    (ws vs : List ℕ)
    (room : length codes + 2 ≤ length ws) (long : length vs ≡ length ws) (L : Loaded codes ws)
    (run : (j : ℕ) → j < 64 → lanes j vs ≡ wire_bits (bare t m W) (lanes j (take (length codes + 2) ws))) where
  ran-lane : (j : ℕ) → j < 64 → lanes j vs ≡ wire_bits N (masked (lane 0 j) (lane 1 j) codes
      (setting_in codes ws (j / 4)))
  ran-lane j h =
      run j h ∙ bare-wires H (lanes j (take (length codes + 2) ws)) ∙ ap (wire_bits N) (loaded-lane codes ws room L j h)

  -- a run leaves the input wires as they are
  same-setting : (s : ℕ) → s < 16 → setting_in codes vs s ≡ setting_in codes ws s
  same-setting s h =
      let k = length codes in
      let room' : length codes + 2 ≤ length vs = omega arith in
      let x = setting_in codes ws (4 * s / 4) in
      let e : 4 * s / 4 ≡ s = omega arith in
      let u = unmasked s h in
      ext_get_or false (setting_in codes vs s) (setting_in codes ws s)
      (long-take codes vs room' (4 * s) k (omega arith) ∙ sym (long-take codes ws room (4 * s) k (omega arith)))
      (λ i m.
      let lv = long-take codes vs room' (4 * s) k (omega arith) in
      let l : i < k = omega arith in
      at_take codes vs room' (4 * s) k i l
      ∙ sym (get_d-lanes (4 * s) vs i)
      ∙ ap (λ (b : List Bool). get_or b i false) (ran-lane (4 * s) (omega arith))
      ∙ input-bit M x (lane 0 (4 * s)) (lane 1 (4 * s)) i l
      ∙ ap₂ (λ (a b : Bool). differs (get_or x i false) (mask_of a b (get_or codes i 0))) u.0 u.1
      ∙ ap (differs (get_or x i false)) (no-mask (get_or codes i 0)) ∙ differs_none (get_or x i false)
      ∙ ap (λ (n : ℕ). get_or (setting_in codes ws n) i false) e)

  pub ran : Ran N codes vs
  ran = record {
    each = λ j h.
        ran-lane j h ∙ ap (λ (x : List Bool). wire_bits N (masked (lane 0 j) (lane 1 j) codes x))
        (sym (same-setting (j / 4) (omega arith)));
    base = λ s h. ap (public_only codes) (same-setting s h) ∙ loaded-base codes ws room L s h
        ∙ sym (same-setting 0 (omega arith));
  }

-- ---- the counts of a round

module _ {N : Netlist} {codes ws : List ℕ} (R : Ran N codes ws) where
  abbrev bit_in : ℕ → ℕ → Bool → Bool → Bool
  bit_in w s m0 m1 = bits_at (wire_bits N (masked m0 m1 codes (setting_in codes ws s))) w

  lane-bit : (w s i k : ℕ) → s < 16 → i < 4 → k ≡ 4 * s + i → lane k (get_or ws w 0) ≡ bit_in w s (lane 0 i) (lane 1 i)
  lane-bit w s i k h q e =
      let p : 4 * s + i < 64 = omega arith in
      let d : (4 * s + i) / 4 ≡ s = omega arith in
      let l0 : lane 0 (4 * s + i) ≡ lane 0 i =
      same-below 4 (λ i. lane 0 (4 * s + i)) (λ i. lane 0 i)
      (below_at 16 (λ s. below 4 (λ i. same (lane 0 (4 * s + i)) (lane 0 i))) tt s h) i q in
      let l1 : lane 1 (4 * s + i) ≡ lane 1 i =
      same-below 4 (λ i. lane 1 (4 * s + i)) (λ i. lane 1 i)
      (below_at 16 (λ s. below 4 (λ i. same (lane 1 (4 * s + i)) (lane 1 i))) tt s h) i q in
      ap (λ (n : ℕ). lane n (get_or ws w 0)) e ∙ sym (get_d-lanes (4 * s + i) ws w)
      ∙ ap (λ (b : List Bool). get_or b w false) (R.each (4 * s + i) p)
      ∙ (λ z. bit_in w (d z) (l0 z) (l1 z))

  pub ran-count : (w s : ℕ) → s < 16 → ones_of ws w s ≡ count N codes w (setting_in codes ws s)
  unfolding count
  ran-count w s h =
      let a = ap bit (lane-bit w s 0 (4 * s) h (omega arith) (omega arith)) in
      let b = ap bit (lane-bit w s 1 (4 * s + 1) h (omega arith) refl) in
      let c = ap bit (lane-bit w s 2 (4 * s + 2) h (omega arith) refl) in
      let d = ap bit (lane-bit w s 3 (4 * s + 3) h (omega arith) refl) in
      λ i. a i + b i + c i + d i

  pub witness : (base : List ℕ) (found : Option (Leak ℕ)) → ((w s : ℕ) → s < 16 → nibbles_of base w s ≡ ones_of ws w 0)
      → LowestDifference (nibbles_of base) (ones_of ws) (length ws) 16 found → Witnessed N codes ws found
  witness base (Some p) first S =
      let D = S.differs p refl in
      record {
        wire = S.inside p refl;
        inside = D.inside;
        own = D.own ∙ ran-count p.wire p.setting D.inside;
        base = D.base ∙ first p.wire p.setting D.inside ∙ ran-count p.wire 0 (omega arith)
            ∙ ap (count N codes p.wire) (sym (R.base p.setting D.inside));
        differ = λ e. D.other (sym D.base ∙ e ∙ D.own);
      }
  witness base None first S = tt

-- what is looked for with the counts of setting 0 as bases
pub looked : (ws base : List ℕ) (found : Option (Leak ℕ)) → ((w s : ℕ) → s < 16 → nibbles_of base w s ≡ ones_of ws w 0)
    → LowestDifference (nibbles_of base) (ones_of ws) (length ws) 16 found → Looked ws found
looked ws base found first S = record {
  lower = λ w h s q. sym (first w s q) ∙ S.lower w h s q;
  inside = S.inside;
  differs = λ p e. let D = S.differs p e in record {
    inside = D.inside;
    smaller = λ s h. let i = D.inside in sym (first p.wire s (omega arith)) ∙ D.smaller s h;
    other = λ z. D.other (first p.wire p.setting D.inside ∙ z);
    base = D.base ∙ first p.wire p.setting D.inside;
    own = D.own;
  };
}
