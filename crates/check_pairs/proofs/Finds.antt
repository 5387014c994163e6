-- The search over the blocks, and its two answers.
use mathlib.Core.Path.{◌≡◌, refl, sym, ap, ap₂, ◌∙◌, subst}
use mathlib.Core.Bool.{Bool, true, false}
use mathlib.Core.List.{List}
use mathlib.Core.Option.{none, some}
use Rattle.std.specs.Prelude.{Option, Some, None}
use Rattle.std.specs.Option.{unwrap_or, option_or}
use Prim.Native.Nat.{ℕ, ◌+◌, ◌*◌, ◌/◌, ◌%◌, ◌^◌, ◌≤◌, ◌<◌}
use native.Mathlib.Nat.{mod-lt}
use native.Mathlib.Omega.{arith}
use lib.Dec.{T}
use lib.ListN.{length, get_or, take}
use lib.Seq.{length-take-le, get_or-take}
use lib.Pow.{pow_pos}
use Rattle.netlist.specs.Netlist.{Netlist}
use Rattle.masking.specs.Leak.{count, setting}
use Rattle.netlist.specs.Table.{Tables, Holds}
use Rattle.masking.proofs.Settings.{setting-mod}
use Rattle.evaluate.specs.Bare.{bare}
use Rattle.evaluate.proofs.Runs.{bare-wires}
use Rattle.evaluate.specs.Lane.{lane}
use Rattle.leak_search.specs.Paint.{paint_each}
use Rattle.leak_search.specs.Base.{part}
use Rattle.leak_search.proofs.Paints.{codes-each, paint-each, each-count}
use Rattle.leak_search.specs.Block.{ones_of, nibbles_of, Evaluated}
use Rattle.leak_search.specs.declared.difference.Leak.{Leak}
use Rattle.leak_search.specs.Difference.{LowestDifference, wire_of, from}
use Rattle.leak_search.proofs.Differences.{difference-same}
use Rattle.check_pairs.specs.Pairs.{both_count, clean_pair, first_bad}
use Rattle.check_pairs.proofs.PairCheck.{ThreeAsBase, passes-three, three-passes, first-is}
use Rattle.check_pairs.specs.declared.search.PairsFound.{PairsFound}
use Rattle.check_pairs.specs.Level.{Counts, counts_of, held_in, held_base, on_from, Alike, Level, LevelAt, FirstUneven}
use Rattle.check_pairs.specs.Bases.{Based, HeldOn}
use Rattle.check_pairs.specs.Search.{bad_of, Found}
use Rattle.check_pairs.proofs.Levels.{alike-setting, alike-base, level-as, level-back, level-on, level-off}
use Rattle.check_pairs.proofs.Uneven.{uneven-as, uneven-more}

-- ---- what one block shows

pub look-law : (words bases base ws : List ℕ) (limit block : ℕ) {best : PairsFound ℕ} {found next : Option (Leak ℕ)}
    (k : Option ℕ)
    → LowestDifference (nibbles_of base) (ones_of words) (wire_of limit best.leak) 16 found
    → unwrap_or best.pair (length ws / 2) ≤ length ws / 2
    → (let us = take (2 * unwrap_or best.pair (length ws / 2)) ws
    in FirstUneven (LevelAt (held_base bases base) (held_in words) us) (length us / 2) 16 k)
    → ((f g : ℕ → ℕ → ℕ) (W : ℕ) → LowestDifference f g W (block * 16) best.leak
    → LowestDifference (from (block * 16) f) (from (block * 16) g)
    (wire_of W best.leak) 16 found
    → LowestDifference f g W (block * 16 + 16) next)
    → (based counts : Counts) → Alike (held_base bases base) (on_from (block * 16) based)
    → Alike (held_in words) (on_from (block * 16) counts)
    → Found based counts ws limit (length ws / 2) (block * 16) best
    → Found based counts ws limit (length ws / 2) (block * 16 + 16)
    (record { leak = next; pair = option_or k best.pair })
look-law words bases base ws limit block {best} k scanned room uneven better based counts a b past = record {
  lowest = better based.one counts.one limit past.lowest (difference-same a.one b.one scanned);
  uneven = uneven-more past.uneven k
      (uneven-as {P = LevelAt (held_base bases base) (held_in words) (take (2 * n) ws)}
      (λ j s i l h. level-on (block * 16) (first j) (second j) s
      (level-as a b (first j) (second j) s l (rw (one j i, two j i) at h)))
      (λ j s i l h. rw (one j i, two j i) (level-back a b (first j) (second j) s l
      (level-off (block * 16) (first j) (second j) s h))) cut);
}
  where
    -- as many pairs are looked at, and the same
    n : ℕ
    n = unwrap_or best.pair (length ws / 2)

    half : length (take (2 * n) ws) / 2 ≡ n
    half = let e = length-take-le (2 * n) ws (omega (arith, room)) in omega arith

    cut : FirstUneven (LevelAt (held_base bases base) (held_in words) (take (2 * n) ws)) n 16 k
    cut = rw half at uneven

    one : (j : ℕ) → j < n → get_or (take (2 * n) ws) (2 * j) 0 ≡ get_or ws (2 * j) 0
    one j i = get_or-take (2 * n) ws (2 * j) 0 (omega arith)

    two : (j : ℕ) → j < n → get_or (take (2 * n) ws) (2 * j + 1) 0 ≡ get_or ws (2 * j + 1) 0
    two j i = get_or-take (2 * n) ws (2 * j + 1) 0 (omega arith)

    first : ℕ → ℕ
    first j = get_or ws (2 * j) 0

    second : ℕ → ℕ
    second j = get_or ws (2 * j + 1) 0

-- ---- the loop over the blocks

abbrev base_counts : Tables → ℕ → ℕ → List ℕ → Counts
base_counts t n W ps = counts_of (bare t n W) false ps

abbrev setting_counts : Tables → ℕ → ℕ → List ℕ → Counts
setting_counts t n W ps = counts_of (bare t n W) true ps

-- the blocks before this one are searched, and the tables keep their lengths
pub record Finding (t : Tables) (n W limit : ℕ) (ps ws : List ℕ) (publics : Bool) (blocks : ℕ)
    (words bases base : List ℕ) (best : PairsFound ℕ) (block : ℕ) : Type 0 where
  pub passed : block ≤ blocks
  pub long_words : length words ≡ W
  pub long_bases : length bases ≡ W
  pub long_base : length base ≡ W
  pub held : HeldOn publics (bare t n W) ps bases base block
  pub found : Found (base_counts t n W ps) (setting_counts t n W ps) ws limit (length ws / 2) (block * 16) best

-- a block is run and looked at
pub find-more : {t : Tables} {n W limit : ℕ} {ps ws : List ℕ} {publics : Bool} {blocks : ℕ} {words bases base : List ℕ}
    {best : PairsFound ℕ} {block : ℕ}
    → Finding t n W limit ps ws publics blocks words bases base best block → block < blocks
    → (us vs zs : List ℕ) (next : PairsFound ℕ) → length us ≡ length words → length vs ≡ length bases → length zs
    ≡ length base
    → Evaluated (bare t n (length words)) true ps us block × Based (bare t n (length words)) ps vs zs block
    × HeldOn publics (bare t n (length words)) ps vs zs (block + 1)
    → ((based counts : Counts) → Alike (held_base vs zs) (on_from (block * 16) based)
    → Alike (held_in us) (on_from (block * 16) counts)
    → Found based counts ws limit (length ws / 2) (block * 16) best → Found based counts ws limit (length ws / 2)
    (block * 16 + 16) next)
    → Finding t n W limit ps ws publics blocks us vs zs next (block + 1)
find-more {t} {n} {W} {limit} {ps} {ws} {publics} {best = best} {block} r l us vs zs next a b c ran looked =
    let q : block * 16 + 16 ≡ (block + 1) * 16 = omega arith in
    let ran' : Evaluated (bare t n W) true ps us block × Based (bare t n W) ps vs zs block × HeldOn publics (bare t n W)
    ps vs zs (block + 1)
    = subst (λ (k : ℕ). Evaluated (bare t n k) true ps us block × Based (bare t n k) ps vs zs block
    × HeldOn publics (bare t n k) ps vs zs (block + 1))
    r.long_words ran in
    record {
      passed = omega arith;
      long_words = a ∙ r.long_words;
      long_bases = b ∙ r.long_bases;
      long_base = c ∙ r.long_base;
      held = ran'.2;
      found = subst (λ (S : ℕ). Found (base_counts t n W ps) (setting_counts t n W ps) ws limit (length ws / 2) S next)
          q
          (looked (base_counts t n W ps) (setting_counts t n W ps) (alike-base ran'.1) (alike-setting ran'.0) r.found);
    }

-- ---- the pairs' answer

module _ {t : Tables} {m W n o : ℕ} {N : Netlist} (h : Holds t m W n o N) (codes : List ℕ) where
  -- counts are those of the netlist that the tables hold
  pub one-bare : (w : ℕ) (x : List Bool) → count (bare t m W) codes w x ≡ count N codes w x
  unfolding count
  one-bare w x = simp (bare-wires h)

  pub both-bare : (u v : ℕ) (x : List Bool) → both_count (bare t m W) codes u v x ≡ both_count N codes u v x
  unfolding both_count
  both-bare u v x = simp (bare-wires h)

module _ {t : Tables} {m W n o : ℕ} {N : Netlist} (h : Holds t m W n o N) (codes : List ℕ)
    (small : (i : ℕ) → i < length codes → get_or codes i 0 < 4) where
  -- and the paints give each number its own setting
  one_each : (secrets : Bool) (w s : ℕ) → (counts_of (bare t m W) secrets (paint_each 0 codes)).one w s
      ≡ count N codes w (part secrets codes (setting (length codes) s))
  one_each secrets w s = each-count (bare t m W) secrets codes small w s
      ∙ one-bare h codes w (part secrets codes (setting (length codes) s))

  both-each : (secrets : Bool) (u v s : ℕ)
      → (counts_of (bare t m W) secrets (paint_each 0 codes)).both u v s
      ≡ both_count N codes u v (part secrets codes (setting (length codes) s))
  both-each secrets u v s =
      ap₂ (λ (es : List ℕ) (x : List Bool). both_count (bare t m W) es u v (part secrets es x))
      (codes-each 0 codes small)
      (paint-each 0 codes s s small (λ i. let e : 0 + i ≡ i = omega arith in ap (λ (j : ℕ). lane j s) e))
      ∙ both-bare h codes u v (part secrets codes (setting (length codes) s))

  module _ (u v : ℕ) where
    -- level settings, and those whose three counts are their base's
    level-three : (s : ℕ) → Level (base_counts t m W (paint_each 0 codes)) (setting_counts t m W (paint_each 0 codes)) u
        v s → ThreeAsBase N codes u v
        (setting (length codes) s)
    level-three s l =
        record {
          left = sym (one_each false u s) ∙ l.first ∙ one_each true u s;
          right = sym (one_each false v s) ∙ l.second ∙ one_each true v s;
          both = sym (both-each false u v s) ∙ l.both ∙ both-each true u v s;
        }

    three-level : (s : ℕ) → ThreeAsBase N codes u v (setting (length codes) s)
        → Level (base_counts t m W (paint_each 0 codes))
        (setting_counts t m W (paint_each 0 codes)) u v s
    three-level s l =
        record {
          first = one_each false u s ∙ l.left ∙ sym (one_each true u s);
          second = one_each false v s ∙ l.right ∙ sym (one_each true v s);
          both = both-each false u v s ∙ l.both ∙ sym (both-each true u v s);
        }

    -- level in all numbered settings, which go round after the last
    level-clean : (S : ℕ) → 2 ^ length codes ≤ S → ((s : ℕ) → s < S → Level (base_counts t m W (paint_each 0 codes))
        (setting_counts t m W (paint_each 0 codes)) u v
        s) → T (clean_pair N codes u v)
    level-clean S room all = three-passes N codes u v (λ s l. level-three s (all s (omega arith)))

    clean-level : T (clean_pair N codes u v) → (s : ℕ) → Level (base_counts t m W (paint_each 0 codes))
        (setting_counts t m W (paint_each 0 codes)) u v s
    clean-level c s =
        three-level s (subst (ThreeAsBase N codes u v) (sym (setting-mod (length codes) s))
        (passes-three N codes u v c (s % 2 ^ length codes) (mod-lt s (pow_pos (length codes)))))

  module _ (ws : List ℕ) (S : ℕ) (found : Option ℕ) (room : 2 ^ length codes ≤ S)
      (uneven : FirstUneven (LevelAt (base_counts t m W (paint_each 0 codes))
      (setting_counts t m W (paint_each 0 codes)) ws) (length ws / 2) S found) where
    before-clean : (j : ℕ) → j < unwrap_or found (length ws / 2)
        → T (clean_pair N codes (get_or ws (2 * j) 0) (get_or ws (2 * j + 1) 0))
    before-clean j l = level-clean (get_or ws (2 * j) 0) (get_or ws (2 * j + 1) 0) S room (uneven.before j l)

    tells : (k : Option ℕ) → found ≡ k → bad_of k ≡ first_bad (clean_pair N codes) ws
    tells None e = first-is (clean_pair N codes) ws none (λ j i. before-clean j (rw e (omega arith)))
    tells (Some k) e =
        let l : k < length ws / 2 = uneven.inside k e in
        first-is (clean_pair N codes) ws (some k) (record {
          inside = omega arith;
          before = λ j i. before-clean j (rw e i);
          bad = λ c. uneven.bad k e (λ s _. clean-level (get_or ws (2 * k) 0) (get_or ws (2 * k + 1) 0) c s);
        })

    pub tells-pairs : bad_of found ≡ first_bad (clean_pair N codes) ws
    tells-pairs = tells found refl
