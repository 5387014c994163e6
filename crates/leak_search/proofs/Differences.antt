-- The search, block by block.
use mathlib.Core.Path.{◌≡◌, refl, sym, ap, ◌∙◌, subst}
use Rattle.std.specs.Prelude.{Option, Some, None}
use Rattle.std.specs.Option.{MatchOption, IsSomeAnd, option_or}
use Rattle.std.proofs.Math.Nat.{mod-eq_of_lt}
use mathlib.Core.Bool.{Bool, true, false}
use mathlib.Core.List.{List}
use Prim.Native.Nat.{ℕ, ◌+◌, ◌-◌, ◌*◌, ◌%◌, ◌^◌, ◌≤◌, ◌<◌}
use native.Mathlib.Omega.{arith}
use lib.Dec.{ltb}
use lib.ListN.{length, take}
use lib.Seq.{length-take-le, get_or-take}
use borrow.Author.Tests.{ltb-true, ltb-false}
use Rattle.netlist.specs.Netlist.{Netlist}
use Rattle.netlist.specs.Table.{Tables}
use Rattle.netlist.proofs.Tests.{on_bool}
use Rattle.evaluate.specs.Bare.{bare}
use Rattle.leak_search.specs.declared.difference.Leak.{Leak}
use Rattle.leak_search.specs.Base.{count_in}
use Rattle.leak_search.specs.Block.{nibble, ones, ones_of, nibbles_of, Counted, Ready, Agree}
use Rattle.leak_search.specs.Difference.{LowestDifference, Differing, wire_of, from, max_blocks}

-- no wire differs
pub difference-none : (f g : ℕ → ℕ → ℕ) (W S : ℕ) → Agree f g W S → LowestDifference f g W S None
difference-none f g W S h = record { lower = h; inside = λ p e. cc; differs = λ p e. cc }

-- a wire that does
pub difference-some : {f g : ℕ → ℕ → ℕ} {W S : ℕ} (p : Leak ℕ) → p.wire < W → Agree f g p.wire S → Differing f g S p
    → LowestDifference f g W S (Some p)
difference-some {f} {g} {W} {S} p l a d = record {
  lower = a;
  inside = λ q e. let same : p ≡ q = cc in subst (λ (r : Leak ℕ). r.wire < W) same l;
  differs = λ q e. let same : p ≡ q = cc in subst (Differing f g S) same d;
}

-- a leak stands on one of the wires
pub wire-within : {f g : ℕ → ℕ → ℕ} {W S : ℕ} (found : Option (Leak ℕ)) → LowestDifference f g W S found
    → wire_of W found ≤ W
wire-within None h = omega arith
wire-within {W = W} (Some p) h = let l : p.wire < W = h.inside p refl in omega arith

-- by equal counts of the wires below W
pub difference-below : {f g f' g' : ℕ → ℕ → ℕ} {W S : ℕ} {found : Option (Leak ℕ)}
    → ((w s : ℕ) → w < W → s < S → f w s ≡ f' w s)
    → ((w s : ℕ) → w < W → s < S → g w s ≡ g' w s) → LowestDifference f g W S found → LowestDifference f' g' W S found
difference-below {found = found} ef eg h = record {
  lower = λ w l s m.
      let k = wire-within found h in
      sym (ef w s (omega arith) m) ∙ h.lower w l s m ∙ eg w s (omega arith) m;
  inside = h.inside;
  differs = λ p is.
      let d = h.differs p is in
      let n = d.inside in
      let k = h.inside p is in
      let e = ef p.wire p.setting k n in
      let o = eg p.wire p.setting k n in
      record {
        inside = n;
        smaller = λ s m. sym (ef p.wire s k (omega arith)) ∙ d.smaller s m ∙ eg p.wire s k (omega arith);
        other = λ q. d.other (e ∙ q ∙ sym o);
        base = d.base ∙ e;
        own = d.own ∙ o;
      };
}

-- and of all wires
pub difference-same : {f g f' g' : ℕ → ℕ → ℕ} {W S : ℕ} {found : Option (Leak ℕ)} → ((w s : ℕ) → s < S → f w s ≡ f' w s)
    → ((w s : ℕ) → s < S → g w s ≡ g' w s)
    → LowestDifference f g W S found → LowestDifference f' g' W S found
difference-same ef eg = difference-below (λ w s _. ef w s) (λ w s _. eg w s)

-- and where the tables are cut to the wires
pub difference-cut : (words base : List ℕ) (k : ℕ) {found : Option (Leak ℕ)} → k ≤ length words
    → LowestDifference (nibbles_of (take k base)) (ones_of (take k words)) (length (take k words)) 16 found
    → LowestDifference (nibbles_of base) (ones_of words) k 16 found
difference-cut words base k l h =
    difference-below (λ w s b _. ap (λ (d : ℕ). nibble d s) (get_or-take k base w 0 b))
    (λ w s b _. ap (λ (d : ℕ). ones d s) (get_or-take k words w 0 b))
    (rw (length-take-le k words l) at h)

-- T settings more, from S on, searched for wires below the best
module _ {f g : ℕ → ℕ → ℕ} {W S : ℕ} (best : Option (Leak ℕ)) (past : LowestDifference f g W S best) where
  -- a setting is one of those before, or one of the T
  split : {P : Type 0} (s : ℕ) → (s < S → P) → (S ≤ s → P) → P
  split s old new = on_bool (ltb s S) (λ t. old (ltb-true s S t)) (λ t. new (ltb-false s S t))

  shifted : (w s : ℕ) → S ≤ s → from S f w (s - S) ≡ from S g w (s - S) → f w s ≡ g w s
  shifted w s k e = let q : S + (s - S) ≡ s = omega arith in subst (λ (n : ℕ). f w n ≡ g w n) q e

  lower-both : {T : ℕ} (limit : ℕ) → limit ≤ wire_of W best → Agree (from S f) (from S g) limit T
      → Agree f g limit (S + T)
  lower-both limit k next w l s m = split s (λ h. past.lower w (omega arith) s h)
      (λ h. shifted w s h (next w l (s - S) (omega arith)))

  -- a lower wire
  pub difference-lower : {T : ℕ} (p : Leak ℕ) → LowestDifference (from S f) (from S g) (wire_of W best) T (Some p)
      → LowestDifference f g W (S + T)
      (Some (record { wire = p.wire; setting = S + p.setting; base = p.base; own = p.own }))
  difference-lower p next =
      let k : wire_of W best ≤ W = wire-within best past in
      let h : p.wire < wire_of W best = next.inside p refl in
      let d = next.differs p refl in
      let n = d.inside in
      difference-some (record { wire = p.wire; setting = S + p.setting; base = p.base; own = p.own }) (omega arith)
      (lower-both p.wire (omega arith) next.lower) (record {
        inside = omega arith;
        smaller = λ s m. split s (λ q. past.lower p.wire h s q)
            (λ q. shifted p.wire s q (d.smaller (s - S) (omega arith)));
        other = d.other;
        base = d.base;
        own = d.own;
      })

  -- none
  pub difference-kept : {T : ℕ} → LowestDifference (from S f) (from S g) (wire_of W best) T None
      → LowestDifference f g W (S + T) best
  difference-kept next = record {
    lower = lower-both (wire_of W best) (omega arith) next.lower;
    inside = past.inside;
    differs = λ p e.
        let d = past.differs p e in
        let n = d.inside in
        record { inside = omega arith; smaller = d.smaller; other = d.other; base = d.base; own = d.own };
  }

-- a block's leak, with the setting's number in all blocks, or else the one so far
abbrev moved : ℕ → Leak ℕ → Leak ℕ
moved block p = record { wire = p.wire; setting = (block * 16 + p.setting) % 2 ^ 64; base = p.base; own = p.own }

pub better-law : {P : Leak ℕ → Leak ℕ → Type 0} {f g : ℕ → ℕ → ℕ} {W : ℕ} (block : ℕ)
    (best found next : Option (Leak ℕ)) → block < max_blocks
    → MatchOption found (next ≡ None) (λ p. IsSomeAnd next (P p)) → ((p q : Leak ℕ) → P p q → q ≡ moved block p)
    → LowestDifference f g W (block * 16) best → LowestDifference (from (block * 16) f) (from (block * 16) g)
    (wire_of W best) 16 found
    → LowestDifference f g W (block * 16 + 16) (option_or next best)
better-law block best None next l h told past scanned = rw h (difference-kept best past scanned)
better-law block best (Some p) None l h told past scanned = absurd h
better-law block best (Some p) (Some q) l h told past scanned =
    let d = scanned.differs p refl in
    rw (told p q h, mod-eq_of_lt {n = block * 16 + p.setting} {m = 2 ^ 64} (omega (arith, d.inside, l)))
    (difference-lower best past p scanned)

-- ---- the loop over the blocks

-- a scan of a block's counts and of those of its bases
pub search-block-law : {N : Netlist} {ps : List ℕ} {counts held : ℕ → ℕ → ℕ} {block limit : ℕ} {p : Option (Leak ℕ)}
    → Counted N true ps counts block
    → Counted N false ps held block
    → LowestDifference held counts limit 16 p → LowestDifference (from (block * 16) (count_in N false ps))
    (from (block * 16) (count_in N true ps)) limit 16 p
search-block-law counts based scanned = difference-same based.each counts.each scanned

-- the blocks before this one are searched, and the tables keep their lengths
pub record Finding (t : Tables) (n W : ℕ) (ps : List ℕ) (publics : Bool) (blocks : ℕ) (words base : List ℕ)
    (best : Option (Leak ℕ)) (block : ℕ) : Type 0 where
  pub passed : block ≤ blocks
  pub long-words : length words ≡ W
  pub long-base : length base ≡ W
  pub ready : Ready publics (bare t n W) ps base block
  pub lowest : LowestDifference (count_in (bare t n W) false ps) (count_in (bare t n W) true ps) W (block * 16) best

-- a block is searched, and the better of two spots kept
pub find-more : {t : Tables} {n W : ℕ} {ps : List ℕ} {publics : Bool} {blocks : ℕ} {words base : List ℕ}
    {best : Option (Leak ℕ)} {block : ℕ}
    → Finding t n W ps publics blocks words base best block → block < blocks
    → (us vs : List ℕ) (found next : Option (Leak ℕ)) → length us ≡ length words → length vs ≡ length base
    → LowestDifference (from (block * 16) (count_in (bare t n (length words)) false ps))
    (from (block * 16) (count_in (bare t n (length words)) true ps))
    (wire_of (length words) best) 16 found
    → Ready publics (bare t n (length words)) ps vs (block + 1)
    → ((f g : ℕ → ℕ → ℕ) (W : ℕ) → LowestDifference f g W (block * 16) best → LowestDifference (from (block * 16) f)
    (from (block * 16) g) (wire_of W best) 16 found
    → LowestDifference f g W (block * 16 + 16) next)
    → Finding t n W ps publics blocks us vs next (block + 1)
find-more {t} {n} {W} {ps} {publics} {best = best} {block} r l us vs found next e d turned ready better =
    let f = count_in (bare t n W) false ps in
    let g = count_in (bare t n W) true ps in
    let q : block * 16 + 16 ≡ (block + 1) * 16 = omega arith in
    let counts : Bool → ℕ → ℕ → ℕ → ℕ = λ secrets k. from (block * 16) (count_in (bare t n k) secrets ps) in
    let turned' : LowestDifference (from (block * 16) f) (from (block * 16) g) (wire_of W best) 16 found =
    subst (λ (k : ℕ). LowestDifference (counts false k) (counts true k) (wire_of k best) 16 found) r.long-words turned
    in
    record {
      passed = omega arith;
      long-words = e ∙ r.long-words;
      long-base = d ∙ r.long-base;
      ready = subst (λ (k : ℕ). Ready publics (bare t n k) ps vs (block + 1)) r.long-words ready;
      lowest = subst (λ (S : ℕ). LowestDifference f g W S next) q (better f g W r.lowest turned');
    }
