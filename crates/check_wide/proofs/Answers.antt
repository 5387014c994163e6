-- From the judged items to both answers.
use Prim.Native.Nat.{ℕ, zero, suc, ◌+◌, ◌-◌, ◌*◌, ◌/◌, ◌^◌, ◌≤◌, ◌<◌}
use mathlib.Core.Path.{◌≡◌, refl, sym, ap, ◌∙◌, subst}
use mathlib.Core.Bool.{Bool, true, false}
use mathlib.Core.List.{List, ◌++◌}
use mathlib.Core.Option.{none, some}
use native.Mathlib.Omega.{arith}
use lib.Dec.{ltb}
use lib.ListN.{length, take, drop, replicate}
use borrow.Author.Tests.{ltb-true, ltb-false}
use Rattle.netlist.specs.Netlist.{Netlist}
use Rattle.netlist.specs.Table.{Tables}
use Rattle.masking.specs.Leak.{leak}
use Rattle.netlist.proofs.Tests.{clash, on_bool}
use Rattle.evaluate.specs.Bare.{bare}
use Rattle.leak_search.specs.Paint.{codes_of, paint}
use Rattle.leak_search.specs.Base.{part, count_in}
use Rattle.std.specs.Prelude.{Option, Some}
use Rattle.std.specs.Bool.{then_some}
use Rattle.leak_search.specs.declared.difference.Leak.{Leak}
use Rattle.leak_search.specs.Difference.{LowestDifference, wire_of}
use Rattle.check_pairs.specs.Pairs.{clean_pair, first_bad}
use Rattle.check_pairs.proofs.PairCheck.{first-is}
use Rattle.check_pairs.specs.Search.{bad_of}
use Rattle.check_pairs.proofs.Finds.{one-bare}
use Rattle.check_wide.specs.Reach.{size, reach, reaches}
use Rattle.check_wide.specs.Rule.{Level, colour_at}
use Rattle.check_wide.specs.Sets.{reach_set, picked}
use Rattle.check_wide.specs.Wide.{listed}
use Rattle.check_wide.proofs.Painted.{level-painted}
use Rattle.check_wide.proofs.Picked.{length-places}
use Rattle.check_wide.proofs.Lowest.{level-clean, ranked-level, lowest-listed}
use Rattle.check_wide.specs.Packed.{Sets, set_at, Small}
use Rattle.check_wide.specs.PaintColours.{Inputs, Seeded}
use Rattle.check_wide.proofs.Passes.{marked-inputs}
use Rattle.check_wide.specs.Items.{is_marked}
use Rattle.check_wide.specs.Judging.{Given, CleanAt, Judged, Judging, Lowest}

-- ---- the items, wires first

none-marked : (k y : ℕ) → is_marked (replicate k 0) y ≡ false
none-marked zero y = refl
none-marked (suc k) zero = refl
none-marked (suc k) (suc y) = none-marked k y

pub first-wires : (N : Netlist) (codes ws : List ℕ) (W k : ℕ) {ms : List ℕ} → ms ≡ replicate k 0
    → Judging N codes ws ms W 0 W W W (length ws / 2)
first-wires N codes ws W k e = record {
  wires = omega arith;
  pairs = omega arith;
  leaks = λ l. absurd (omega arith);
  bad = λ l. absurd (omega arith);
  before = λ y l. absurd (omega arith);
  marked = λ y l m. let z = ap (λ (ms : List ℕ). is_marked ms y) e ∙ none-marked k y in clash (cc);
  done = λ y l m. absurd (omega arith);
}

pub then-pairs : {N : Netlist} {codes ws ms : List ℕ} {W wire pair : ℕ} (k : ℕ) {ms' : List ℕ} → ms' ≡ replicate k 0
    → Judging N codes ws ms W 0 W 0 wire pair → Judging N codes ws ms' W W (length ws / 2) (length ws / 2) wire pair
then-pairs {N} {codes} {ws} {W = W} {wire} {pair} k e J = record {
  wires = J.wires;
  pairs = J.pairs;
  leaks = J.leaks;
  bad = J.bad;
  before = λ y l. let z : 0 + y ≡ y = omega arith in subst (Judged N codes ws W wire pair) z (J.done y (omega arith) l);
  marked = λ y l m. let z = ap (λ (ms : List ℕ). is_marked ms y) e ∙ none-marked k y in clash (cc);
  done = λ y l m. absurd (omega arith);
}

pub all-judged : {N : Netlist} {codes ws ms : List ℕ} {W wire pair : ℕ} → Judging N codes ws ms W W (length ws / 2) 0
    wire pair → Lowest N codes ws W wire pair
all-judged {N} {codes} {ws} {W = W} {wire} {pair} J = record {
  wires = J.wires;
  pairs = J.pairs;
  leaks = J.leaks;
  bad = J.bad;
  level = λ w l. let z = J.wires in (J.before w (omega arith)).level (omega arith) l;
  clean = λ j l.
      let z = J.pairs in
      let e : W + j - W ≡ j = omega arith in
      subst (CleanAt N codes ws) e ((J.done j (omega arith) (omega arith)).clean (omega arith) (omega arith));
}

-- ---- the pairs' answer

pub pairs-told : {N : Netlist} {codes ws : List ℕ} {W wire pair : ℕ} → Lowest N codes ws W wire pair
    → bad_of (then_some (ltb pair (length ws / 2)) pair) ≡ first_bad (clean_pair N codes) ws
pairs-told {N} {codes} {ws} {pair = pair} L =
    on_bool (ltb pair (length ws / 2))
    (λ t. let l = ltb-true pair (length ws / 2) t in
    rw t (first-is (clean_pair N codes) ws (some pair) (record {
      inside = omega arith;
      before = L.clean;
      bad
          = L.bad l;
    })))
    (λ t. let l = ltb-false pair (length ws / 2) t in
    let z = L.pairs in
    rw t (first-is (clean_pair N codes) ws none (λ j i. L.clean j (omega arith))))

-- ---- the leak

pub clean-told : {t : Tables} {m W n o : ℕ} {S : Sets} {N : Netlist} {codes ws : List ℕ} {wire pair : ℕ}
    → Given t m W n S o N → Lowest N codes ws W wire pair
    → W ≤ wire → listed (length codes) (leak N codes) ≡ none
clean-told {N = N} {codes} G L l =
    let e = G.holds.wires in
    ap (listed (length codes)) (level-clean N codes (λ w b. L.level w (omega arith)))

-- a wire's inputs get the colours 1, 2, 3 and so on: they are those that reach it, and the blocks hold all their
-- settings
pub seeded-wire : {t : Tables} {m W o : ℕ} {S : Sets} {N : Netlist} (codes : List ℕ) → Given t m W (length codes) S o N
    → (wire : ℕ) → wire < W
    → (is ps₀ ps : List ℕ) → is ≡ set_at S wire → length ps ≡ length codes → length ps ≡ length ps₀ → Seeded is ps₀ ps
    → (B k : ℕ) → length is ≡ k → 2 ^ k ≤ B * 16
    → (is ≡ reach_set N (length ps) wire)
    × ((a : ℕ) → a < length (reach_set N (length ps) wire) → colour_at (reach_set N (length ps) wire) ps a ≡ a + 1)
    × (2 ^ length (reach_set N (length ps) wire) ≤ B * 16)
seeded-wire {N = N} codes G wire inside is ps₀ ps known long same seeded B k count blocks =
    let e : is ≡ reach_set N (length ps) wire = known ∙ G.each wire inside ∙ ap (λ (j : ℕ). reach_set N j wire)
    (sym long) in
    let inputs : Inputs (reach_set N (length ps) wire) (length ps₀) = subst (Inputs (reach_set N (length ps) wire)) same
    (marked-inputs (λ i. reaches N i wire) (length ps)) in (
      e,
      subst (λ (js : List ℕ). Inputs js (length ps₀) → (b : ℕ) → b < length js → colour_at js ps b ≡ b + 1) e
          seeded.each inputs,
      subst (λ (j : ℕ). 2 ^ j ≤ B * 16) (sym count ∙ ap length e) blocks,
    )

-- the inputs that reach the lowest wire have the colours 1, 2, 3 and so on
module _ {t : Tables} {m W o : ℕ} {S : Sets} {N : Netlist} {codes ws : List ℕ} {wire pair : ℕ}
    (G : Given t m W (length codes) S o N)
    (L : Lowest N codes ws W wire pair) (inside : wire < W) (room : length codes + 2 ≤ W) (ps : List ℕ)
    (plain : codes_of ps ≡ codes)
    (ranked : (a : ℕ) → a < length (reach_set N (length ps) wire) → colour_at (reach_set N (length ps) wire) ps a
    ≡ a + 1) (B : ℕ)
    (blocks : 2 ^ length (reach_set N (length ps) wire) ≤ B * 16) (r : Option (Leak ℕ))
    (F : LowestDifference (count_in (bare t m W) false ps) (count_in (bare t m W) true ps) (wire + 1) (B * 16) r) where
  cs : List ℕ
  cs = codes_of ps

  same-one : (secrets : Bool) (w s : ℕ) → count_in (bare t m W) secrets ps w s ≡ count_in N secrets ps w s
  same-one secrets w s = one-bare G.holds (codes_of ps) w (part secrets (codes_of ps) (paint ps s))

  fits : length (codes_of ps) + 2 ≤ N.wires
  fits = let e = G.holds.wires in let l = ap length plain in omega arith

  uncode : (w : ℕ) → Level N codes w → Level N (codes_of ps) w
  uncode w = subst (λ (es : List ℕ). Level N es w) (sym plain)

  -- the search passes no lower wire, and that one not
  not_lower : (p : Leak ℕ) → r ≡ Some p → p.wire < wire → ⊥
  not_lower p is l =
      let d = F.differs p is in
      d.other (same-one false p.wire p.setting ∙ level-painted N ps p.wire (uncode p.wire (L.level p.wire l)) p.setting
      ∙ sym (same-one true p.wire p.setting))

  pub not-higher : wire < wire_of (wire + 1) r → ⊥
  not-higher l =
      L.leaks inside (subst (λ (es : List ℕ). Level N es wire) plain (ranked-level N ps wire fits ranked (λ s k.
      let e = length-places 0 (reach N (length ps) wire) in
      let h : 2 ^ size (reach N (length ps) wire) ≤ B * 16 = subst (λ (j : ℕ). 2 ^ j ≤ B * 16) e blocks in
      let b : s < B * 16 = omega arith in
      sym (same-one false wire s) ∙ F.lower wire l s b ∙ same-one true wire s)))

  -- it ends there
  ends : (p : Leak ℕ) → r ≡ Some p → p.wire ≡ wire
  ends p is =
      on_bool (ltb p.wire wire) (λ a. absurd (not_lower p is (ltb-true p.wire wire a)))
      (λ a. let x = ltb-false p.wire wire a in let y = F.inside p is in omega arith)

  pub leak-told : (p : Leak ℕ) → r ≡ Some p → listed (length codes) (leak N codes)
      ≡ some (record {
        wire = wire;
        ones = picked (reach_set N (length ps) wire) p.setting;
        base = p.base;
        own
            = p.own;
      })
  leak-told p is =
      let e = ends p is in
      let d = F.differs p is in
      let at : (w : ℕ) → w ≡ wire → (s : ℕ) → count_in (bare t m W) false ps w s ≡ count_in (bare t m W) true ps w s
      → count_in N false ps wire s ≡ count_in N true ps wire s
      = λ w q s h. subst (λ (v : ℕ). count_in N false ps v s ≡ count_in N true ps v s) q
      (sym (same-one false w s) ∙ h ∙ same-one true w s) in
      subst (λ (es : List ℕ). listed (length es) (leak N es) ≡ some (record {
        wire = wire;
        ones = picked (reach_set N (length ps) wire) p.setting;
        base = p.base;
        own = p.own;
      })) plain
      (lowest-listed N ps wire fits ranked p.setting p.base p.own (let q = G.holds.wires in omega arith)
      (λ v l. uncode v (L.level v l))
      (λ u l. at p.wire e u (d.smaller u l))
      (λ h. d.other (same-one false p.wire p.setting ∙ subst (λ (v : ℕ). count_in N false ps v p.setting
      ≡ count_in N true ps v p.setting) (sym e) h
      ∙ sym (same-one true p.wire p.setting)))
      (d.base ∙ same-one false p.wire p.setting ∙ ap (λ (v : ℕ). count_in N false ps v p.setting) e)
      (d.own ∙ same-one true p.wire p.setting ∙ ap (λ (v : ℕ). count_in N true ps v p.setting) e))

-- ---- the ones of a setting

pub record Picking (is : List ℕ) (t : ℕ) (out : List ℕ) (k rest a : ℕ) : Type 0 where
  pub passed : a ≤ length is
  pub under : k ≤ a
  pub long : length out ≡ 12
  pub small : Small is → Small out
  pub value : picked is t ≡ take k out ++ picked (drop a is) rest
