-- One pass: the items that were given different colours are judged.
use Prim.Native.Nat.{ℕ, suc, ◌+◌, ◌-◌, ◌*◌, ◌/◌, ◌%◌, ◌^◌, ◌≤◌, ◌<◌}
use mathlib.Core.Path.{◌≡◌, refl, sym, ap, ◌∙◌, subst}
use mathlib.Core.Bool.{Bool, true, false, ◌||◌}
use mathlib.Core.List.{List, [], ◌∷◌}
use mathlib.Core.Logic.{⊎_elim}
use native.Mathlib.Omega.{arith}
use lib.Dec.{T, ltb}
use lib.ListN.{length, get_or, take, get_or-eq_default}
use lib.Seq.{length-take-le, get_or-take}
use borrow.Author.Tests.{ltb-true, ltb-false}
use Rattle.netlist.specs.Netlist.{Netlist}
use Rattle.netlist.specs.Table.{Tables}
use Rattle.netlist.proofs.Tests.{on_bool}
use Rattle.evaluate.specs.Bare.{bare}
use Rattle.leak_search.specs.Paint.{codes_of, paint}
use Rattle.leak_search.specs.Base.{part, count_in}
use Rattle.leak_search.proofs.Paints.{length-codes_of}
use Rattle.check_pairs.specs.Pairs.{clean_pair}
use Rattle.check_pairs.proofs.PairCheck.{ThreeAsBase}
use Rattle.check_pairs.specs.declared.search.PairsFound.{PairsFound}
use Rattle.check_pairs.specs.Level.{counts_of, Level as PairLevel}
use Rattle.check_pairs.specs.Search.{Found}
use Rattle.check_pairs.proofs.Uneven.{pair-within}
use Rattle.leak_search.specs.declared.difference.Leak.{Leak}
use Rattle.leak_search.specs.Difference.{wire_of}
use Rattle.leak_search.proofs.Differences.{wire-within}
use Rattle.std.specs.Prelude.{Option, Some, None}
use Rattle.std.specs.Option.{unwrap_or}
use Rattle.check_pairs.proofs.Finds.{one-bare, both-bare}
use Rattle.check_wide.specs.Reach.{reaches, marks, places}
use Rattle.check_wide.specs.Rule.{Level, Different}
use Rattle.check_wide.specs.Sets.{merge, reach_set, pair_set}
use Rattle.check_wide.proofs.Marks.{length-marks}
use Rattle.check_wide.proofs.Merges.{merge-marks}
use Rattle.check_wide.proofs.Places.{place-below, places-apart}
use Rattle.check_wide.proofs.Painted.{level-painted, clean-painted, painted-level, painted-clean}
use Rattle.check_wide.specs.Packed.{Sets}
use Rattle.check_wide.specs.PaintColours.{Upto, Inputs, Seeded}
use Rattle.check_wide.proofs.ColourGiving.{different-kept, seeded-different}
use Rattle.check_wide.specs.Items.{item_set, is_marked, Serving}
use Rattle.check_wide.specs.Judging.{Given, CleanAt, Judged, Judging}
use Rattle.check_wide.proofs.ItemSets.{item-wire, item-pair}

-- codes are paints without colours
pub codes-plain : (es : List ℕ) → ((i : ℕ) → i < length es → get_or es i 0 < 4) → codes_of es ≡ es
codes-plain [] h = refl
codes-plain (e ∷ es) h =
    let l : e < 4 = h 0 (omega arith) in
    let m : e % 4 ≡ e = omega arith in
    (λ i. m i ∷ codes-plain es (λ j b. h (suc j) (omega arith)) i)

-- the marked inputs, as a list
pub marked-inputs : (t : ℕ → Bool) (n : ℕ) → Inputs (places 0 (marks t 0 n)) n
marked-inputs t n = record {
  inside = λ a l. let h = place-below 0 (marks t 0 n) a l in let e = length-marks t 0 n in omega arith;
  apart = places-apart 0 (marks t 0 n);
}

-- what was judged stays so when worse is found
pub judged-worse : {N : Netlist} {codes ws : List ℕ} {W wire pair wire' pair' y : ℕ} → wire' ≤ wire → pair' ≤ pair
    → Judged N codes ws W wire pair y
    → Judged N codes ws W wire' pair' y
judged-worse l m J = record { level = λ a b. J.level a (omega arith); clean = λ a b. J.clean a (omega arith) }

module _ {t : Tables} {m W : ℕ} {S : Sets} {o : ℕ} {N : Netlist} {n : ℕ} (G : Given t m W n S o N) (ws : List ℕ)
    (below : (i : ℕ) → i < length ws → get_or ws i 0 < W) where
  -- an item's set is that of the inputs that reach it
  pub wire-set : (y : ℕ) → y < W → item_set S ws W y ≡ reach_set N n y
  wire-set y l = item-wire S ws W y l ∙ G.each y l

  pub pair_set_lem : (y : ℕ) → W ≤ y → y < W + length ws / 2 → item_set S ws W y
      ≡ pair_set N n (get_or ws (2 * (y - W)) 0) (get_or ws (2 * (y - W) + 1) 0)
  pair_set_lem y l k =
      item-pair S ws W y l
      ∙ (λ i. merge (G.each (get_or ws (2 * (y - W)) 0) (below (2 * (y - W)) (omega arith)) i)
      (G.each (get_or ws (2 * (y - W) + 1) 0) (below (2 * (y - W) + 1) (omega arith)) i))

  pub item-inputs : (y : ℕ) → y < W + length ws / 2 → Inputs (item_set S ws W y) n
  item-inputs y k =
      on_bool (ltb y W)
      (λ b. subst (λ (is : List ℕ). Inputs is n) (sym (wire-set y (ltb-true y W b)))
      (marked-inputs (λ i. reaches N i y) n))
      (λ b. let l = ltb-false y W b in
      let u = get_or ws (2 * (y - W)) 0 in
      let v = get_or ws (2 * (y - W) + 1) 0 in
      subst (λ (is : List ℕ). Inputs is n)
      (sym (pair_set_lem y l k ∙ merge-marks (λ i. reaches N i u) (λ i. reaches N i v) 0 n))
      (marked-inputs (λ i. reaches N i u || reaches N i v) n))

-- a search of the settings that paints give
module _ (t : Tables) (m W : ℕ) (S : Sets) (codes ws : List ℕ) (below : (i : ℕ) → i < length ws → get_or ws i 0 < W)
    (room : length codes + 2 ≤ W) (ps : List ℕ) (plain : codes_of ps ≡ codes) (K B wire pair : ℕ) (upto : Upto K ps)
    (blocks : 2 ^ K ≤ B * 16)
    (even : 2 * pair ≤ length ws) (found : PairsFound ℕ)
    (F : Found (counts_of (bare t m W) false ps) (counts_of (bare t m W) true ps) (take (2 * pair) ws) wire
    (length (take (2 * pair) ws) / 2) (B * 16) found)
  where
    abbrev cs : List ℕ
    cs = codes_of ps

    abbrev wire' : ℕ
    wire' = wire_of wire found.leak

    abbrev pair' : ℕ
    pair' = unwrap_or found.pair pair

    long : length ps ≡ length codes
    long = sym (length-codes_of ps) ∙ ap length plain

    pub lower-wire : wire' ≤ wire
    lower-wire = wire-within found.leak F.lowest

    -- as many pairs are looked at
    half : length (take (2 * pair) ws) / 2 ≡ pair
    half = let e = length-take-le (2 * pair) ws even in omega arith

    pub lower-pair : pair' ≤ pair
    lower-pair = let l = pair-within found.pair F.uneven in rw half at l

    module _ {o : ℕ} {N : Netlist} (G : Given t m W (length codes) S o N) where
      same-one : (secrets : Bool) (w s : ℕ) → count_in (bare t m W) secrets ps w s ≡ count_in N secrets ps w s
      same-one secrets w s = one-bare G.holds cs w (part secrets cs (paint ps s))

      fits : length cs + 2 ≤ N.wires
      fits = let e = G.holds.wires in let l = ap length plain in omega arith

      recode : (w : ℕ) → Level N cs w → Level N codes w
      recode w = subst (λ (es : List ℕ). Level N es w) plain

      uncode : (w : ℕ) → Level N codes w → Level N cs w
      uncode w = subst (λ (es : List ℕ). Level N es w) (sym plain)

      -- the three counts of a pair
      three : (u v s : ℕ) → PairLevel (counts_of (bare t m W) false ps) (counts_of (bare t m W) true ps) u v s
          → ThreeAsBase N cs u v (paint ps s)
      three u v s L = record {
        left = sym (same-one false u s) ∙ L.first ∙ same-one true u s;
        right = sym (same-one false v s) ∙ L.second ∙ same-one true v s;
        both = sym (both-bare G.holds cs u v (part false cs (paint ps s))) ∙ L.both
            ∙ both-bare G.holds cs u v (part true cs (paint ps s));
      }

      level : (u v s : ℕ) → ThreeAsBase N cs u v (paint ps s) → PairLevel (counts_of (bare t m W) false ps)
          (counts_of (bare t m W) true ps) u v s
      level u v s L = record {
        first = same-one false u s ∙ L.left ∙ sym (same-one true u s);
        second = same-one false v s ∙ L.right ∙ sym (same-one true v s);
        both = both-bare G.holds cs u v (part false cs (paint ps s)) ∙ L.both
            ∙ sym (both-bare G.holds cs u v (part true cs (paint ps s)));
      }

      pub wire-leaks : wire' < wire → Level N codes wire' → ⊥
      wire-leaks = go found.leak refl
        where
          go : (r : Option (Leak ℕ)) → found.leak ≡ r → wire_of wire r < wire → Level N codes (wire_of wire r) → ⊥
          go None e l h = absurd (omega arith)
          go (Some p) e l h =
              let d = F.lowest.differs p e in
              d.other (same-one false p.wire p.setting ∙ level-painted N ps p.wire (uncode p.wire h) p.setting
              ∙ sym (same-one true p.wire p.setting))

      entry : (j : ℕ) → j < 2 * pair → get_or (take (2 * pair) ws) j 0 ≡ get_or ws j 0
      entry j l = get_or-take (2 * pair) ws j 0 l

      pub pair-bad : pair' < pair → CleanAt N codes ws pair' → ⊥
      pair-bad = go found.pair refl
        where
          go : (r : Option ℕ) → found.pair ≡ r → unwrap_or r pair < pair → CleanAt N codes ws (unwrap_or r pair) → ⊥
          go None e l h = absurd (omega arith)
          go (Some k) e l h =
              let u = get_or (take (2 * pair) ws) (2 * k) 0 in
              let v = get_or (take (2 * pair) ws) (2 * k + 1) 0 in
              let h' : T (clean_pair N cs u v) = subst (λ (a : ℕ). T (clean_pair N cs a v))
              (sym (entry (2 * k) (omega arith)))
              (subst (λ (b : ℕ). T (clean_pair N cs (get_or ws (2 * k) 0) b)) (sym (entry (2 * k + 1) (omega arith)))
              (subst (λ (es : List ℕ). T (clean_pair N es (get_or ws (2 * k) 0) (get_or ws (2 * k + 1) 0))) (sym plain)
              h)) in
              F.uneven.bad k e (λ s _. level u v s (clean-painted N ps u v h' s))

      -- an item with different colours is judged
      pub item-judged : (y : ℕ) → y < W + length ws / 2 → Different (item_set S ws W y) ps
          → Judged N codes ws W wire' pair' y
      item-judged y k D = record {
        level = λ a b. recode y (painted-level N ps fits K (λ i _. upto i) y
            (subst (λ (is : List ℕ). Different is ps) (wire-set G ws below y a ∙ ap (λ (j : ℕ). reach_set N j y)
            (sym long)) D)
            (λ s l. sym (same-one false y s) ∙ F.lowest.lower y b s (omega arith) ∙ same-one true y s));
        clean = λ a b.
            let j = y - W in
            let u = get_or ws (2 * j) 0 in
            let v = get_or ws (2 * j + 1) 0 in
            let z = lower-pair in
            subst (λ (es : List ℕ). T (clean_pair N es u v)) plain (painted-clean N ps fits K (λ i _. upto i) u v
            (subst (λ (is : List ℕ). Different is ps) (pair_set_lem G ws below y a k ∙ ap (λ (j : ℕ). pair_set N j u v)
            (sym long)) D)
            (λ s l. three u v s (subst (λ (a : ℕ). PairLevel (counts_of (bare t m W) false ps)
            (counts_of (bare t m W) true ps) a v s) (entry (2 * j) (omega arith))
            (subst (λ (b : ℕ). PairLevel (counts_of (bare t m W) false ps) (counts_of (bare t m W) true ps)
            (get_or (take (2 * pair) ws) (2 * j) 0) b s)
            (entry (2 * j + 1) (omega arith)) (F.uneven.before j (rw half b) s (omega arith))))));
      }

      -- so a pass that gave item start + x and others different colours judges them
      pub passed : (start x n : ℕ) {ms ms' ps₀ ps₁ : List ℕ} → x < n → start + n ≤ W + length ws / 2 → length ps₀
          ≡ length codes
          → Seeded (item_set S ws W (start + x)) ps₀ ps₁ → Serving S ws W start ms ms' ps₁ ps
          → Judging N codes ws ms W start n (x + 1) wire pair → Judging N codes ws ms' W start n x wire' pair'
      passed start x n {ms} {ms'} {ps₀} {ps₁} l k e A U J =
          let p = lower-wire in
          let q = lower-pair in
          let apart : Different (item_set S ws W (start + x)) ps
          = different-kept U.kept (seeded-different A (subst (Inputs (item_set S ws W (start + x))) (sym e)
          (item-inputs G ws below (start + x) (omega arith)))) in
          record {
            wires = let z = J.wires in omega arith;
            pairs = let z = J.pairs in omega arith;
            leaks = λ b h. on_bool (ltb wire' wire) (λ c. wire-leaks (ltb-true wire' wire c) h)
                (λ c. let d = ltb-false wire' wire c in let z : wire' ≡ wire = omega arith
                in J.leaks (omega arith) (subst (Level N codes) z h));
            bad = λ b h. on_bool (ltb pair' pair) (λ c. pair-bad (ltb-true pair' pair c) h)
                (λ c. let d = ltb-false pair' pair c in let z : pair' ≡ pair = omega arith
                in J.bad (omega arith) (subst (CleanAt N codes ws) z h));
            before = λ y b. judged-worse p q (J.before y b);
            marked = λ y b c. ⊎_elim (λ d. judged-worse p q (J.marked y b d))
                (λ d. item-judged (start + y) (omega arith) d) (U.each y c);
            done = λ y b c. on_bool (ltb x y) (λ d. let z = ltb-true x y d
                in judged-worse p q (J.done y (omega arith) c))
                (λ d. let z = ltb-false x y d in let v : x ≡ y = omega arith in
                subst (λ (w : ℕ). Judged N codes ws W wire' pair' (start + w)) v
                (item-judged (start + x) (omega arith) apart));
          }

-- an item that is marked is left out
pub skipped : {N : Netlist} {codes ws ms : List ℕ} {W start n x wire pair : ℕ} → is_marked ms x ≡ true
    → Judging N codes ws ms W start n (x + 1) wire pair
    → Judging N codes ws ms W start n x wire pair
skipped {ms = ms} {x = x} t J = record {
  wires = J.wires;
  pairs = J.pairs;
  leaks = J.leaks;
  bad = J.bad;
  before = J.before;
  marked = J.marked;
  done = λ y b c. on_bool (ltb x y) (λ d. let z = ltb-true x y d in J.done y (omega arith) c)
      (λ d. let z = ltb-false x y d in let v : x ≡ y = omega arith
      in J.marked y c (subst (λ (w : ℕ). is_marked ms w ≡ true) v t));
}

-- codes have no colours
pub codes-upto : (es : List ℕ) → ((i : ℕ) → i < length es → get_or es i 0 < 4) → Upto 12 es
codes-upto es h i =
    on_bool (ltb i (length es)) (λ b. let l = h i (ltb-true i (length es) b) in omega arith)
    (λ b. let e = get_or-eq_default es 0 {n = i} (ltb-false i (length es) b) in rw e (omega arith))

-- ---- the loop over the items

pub record Passing (t : Tables) (m W : ℕ) (S : Sets) (codes ws : List ℕ) (start total : ℕ)
    (paints₀ marks₀ base₀ bases₀ : List ℕ) (wire₀ pair₀ : ℕ)
    (paints marks words base bases : List ℕ) (wire pair x : ℕ) : Type 0 where
  pub passed : x ≤ total
  pub same-paints : length paints ≡ length paints₀
  pub same-marks : length marks ≡ length marks₀
  pub same-words : length words ≡ W
  pub same_base : length base ≡ length base₀
  pub same-bases : length bases ≡ length bases₀
  pub lower : wire ≤ wire₀
  pub fewer : pair ≤ pair₀
  pub judged : (o : ℕ) (N : Netlist) → Given t m W (length codes) S o N → Judging N codes ws marks₀ W start total total
      wire₀ pair₀
      → Judging N codes ws marks W start total x wire pair

pub passing-more : {t : Tables} {m W : ℕ} {S : Sets} {codes ws : List ℕ} {start total : ℕ}
    {paints₀ marks₀ base₀ bases₀ : List ℕ} {wire₀ pair₀ : ℕ}
    {paints marks words base bases : List ℕ} {wire pair x : ℕ}
    → Passing t m W S codes ws start total paints₀ marks₀ base₀ bases₀ wire₀ pair₀ paints marks words base bases wire
    pair x → 0 < x
    → start + total ≤ W + length ws / 2 → {paints' marks' words' base' bases' : List ℕ} {wire' pair' : ℕ}
    → length paints' ≡ length paints
    → length marks' ≡ length marks → length words' ≡ length words → length base' ≡ length base → length bases'
    ≡ length bases → wire' ≤ wire
    → pair' ≤ pair
    → ((o n : ℕ) (N : Netlist) → Given t m (length words) (length codes) S o N → x - 1 < n → start + n ≤ length words +
    length ws / 2
    → Judging N codes ws marks (length words) start n (x - 1 + 1) wire pair → Judging N codes ws marks' (length words)
    start n (x - 1) wire' pair')
    → Passing t m W S codes ws start total paints₀ marks₀ base₀ bases₀ wire₀ pair₀ paints' marks' words' base' bases'
    wire' pair' (x - 1)
passing-more {t} {m} {W} {S} {codes} {ws} {start} {total} {marks = marks} {wire = wire} {pair} {x} P l room
    {marks' = marks'} {wire' = wire'} {pair'} a b c d e
    f g step = record {
      passed = let z = P.passed in omega arith;
      same-paints = a ∙ P.same-paints;
      same-marks = b ∙ P.same-marks;
      same-words = c ∙ P.same-words;
      same_base = d ∙ P.same_base;
      same-bases = e ∙ P.same-bases;
      lower = let z = P.lower in omega arith;
      fewer = let z = P.fewer in omega arith;
      judged = λ o N G J.
          let w = P.same-words in
          let p = P.passed in
          let y : x ≡ x - 1 + 1 = omega arith in
          subst (λ (Y : ℕ). Judging N codes ws marks' Y start total (x - 1) wire' pair') w
          (step o total N (subst (λ (Y : ℕ). Given t m Y (length codes) S o N) (sym w) G) (omega arith) (omega arith)
          (subst (λ (Y : ℕ). Judging N codes ws marks Y start total (x - 1 + 1) wire pair) (sym w)
          (subst (λ (z : ℕ). Judging N codes ws marks W start total z wire pair) y (P.judged o N G J))));
    }
