-- The counts that a block's words hold, and the pairs that are level in it.
use mathlib.Core.Path.{◌≡◌, sym, ap, ap₂, ◌∙◌}
use mathlib.Core.Bool.{Bool, false, ◌&&◌}
use mathlib.Core.List.{List}
use Prim.Native.Nat.{ℕ, ◌+◌, ◌*◌, ◌^◌, ◌<◌}
use native.Mathlib.Omega.{arith}
use lib.Bits.{bit_and, bit_or}
use lib.Dec.{eqb}
use lib.ListN.{length, get_or}
use Rattle.netlist.specs.Netlist.{Netlist}
use Rattle.netlist.specs.Eval.{wire_bits, bits_at, bit}
use Rattle.masking.specs.Leak.{masked}
use Rattle.evaluate.specs.Lane.{lane}
use Rattle.evaluate.proofs.Lanes.{lane_and}
use Rattle.leak_search.specs.Paint.{codes_of, paint}
use Rattle.leak_search.specs.Base.{part}
use Rattle.leak_search.specs.Block.{nibble, ones, ones_of, nibbles_of, Evaluated, Agree}
use Rattle.leak_search.proofs.Nibbles.{same-counts, no-nibble, or-none, or-both, all_same}
use Rattle.leak_search.proofs.BlockRuns.{wire-lane, run-block-law}
use Rattle.check_pairs.specs.Pairs.{both_count}
use Rattle.check_pairs.specs.Level.{Counts, counts_of, both_ones, held_in, held_base, on_from, Alike, Level}
use Rattle.check_pairs.specs.Bases.{Based}

-- ---- the counts of two wires together

module _ {N : Netlist} {secrets : Bool} {ps : List ℕ} {block : ℕ} {us : List ℕ} (ran : Evaluated N secrets ps us block)
  where
    abbrev at : ℕ → List Bool
    at s = part secrets (codes_of ps) (paint ps (block * 16 + s))

    -- both wires in lane m of setting s
    one : (u v s m : ℕ) → s < 16 → m < 4
        → bit (lane (4 * s + m) (bit_and (get_or us u 0) (get_or us v 0)))
        ≡ bit (bits_at (wire_bits N (masked (lane 0 m) (lane 1 m) (codes_of ps) (at s))) u && bits_at
        (wire_bits N (masked (lane 0 m) (lane 1 m) (codes_of ps) (at s))) v)
    one u v s m l k =
        ap bit (lane_and (4 * s + m) (get_or us u 0) (get_or us v 0) ∙ ap₂ ◌&&◌ (wire-lane ran u s m l k)
        (wire-lane ran v s m l k))

    pub both-law : (u v s : ℕ) → s < 16 → both_ones us u v s ≡ (counts_of N secrets ps).both u v (block * 16 + s)
    unfolding both_count
    both-law u v s l =
        let z : 4 * s ≡ 4 * s + 0 = omega arith in
        ap₂ ◌+◌
        (ap₂ ◌+◌ (ap₂ ◌+◌ (ap (λ (j : ℕ). bit (lane j (bit_and (get_or us u 0) (get_or us v 0)))) z
        ∙ one u v s 0 l (omega arith)) (one u v s 1 l (omega arith)))
        (one u v s 2 l (omega arith)))
        (one u v s 3 l (omega arith))

    pub alike-setting : Alike (held_in us) (on_from (block * 16) (counts_of N secrets ps))
    alike-setting = record { one = (run-block-law ran).each; both = both-law }

pub alike-base : {N : Netlist} {ps bases base : List ℕ} {block : ℕ} → Based N ps bases base block
    → Alike (held_base bases base) (on_from (block * 16) (counts_of N false ps))
alike-base b = record { one = λ w s l. b.counts w s l ∙ (run-block-law b.words).each w s l; both = both-law b.words }

-- ---- level by equal counts

pub level-as : {c d c' d' : Counts} → Alike c c' → Alike d d' → (u v s : ℕ) → s < 16 → Level c d u v s
    → Level c' d' u v s
level-as a b u v s l h = record {
  first = sym (a.one u s l) ∙ h.first ∙ b.one u s l;
  second = sym (a.one v s l) ∙ h.second ∙ b.one v s l;
  both = sym (a.both u v s l) ∙ h.both ∙ b.both u v s l;
}

pub level-back : {c d c' d' : Counts} → Alike c c' → Alike d d' → (u v s : ℕ) → s < 16 → Level c' d' u v s
    → Level c d u v s
level-back a b u v s l h = record {
  first = a.one u s l ∙ h.first ∙ sym (b.one u s l);
  second = a.one v s l ∙ h.second ∙ sym (b.one v s l);
  both = a.both u v s l ∙ h.both ∙ sym (b.both u v s l);
}

-- settings from S on
pub level-on : {b o : Counts} (S u v s : ℕ) → Level (on_from S b) (on_from S o) u v s → Level b o u v (S + s)
level-on S u v s h = record { first = h.first; second = h.second; both = h.both }

pub level-off : {b o : Counts} (S u v s : ℕ) → Level b o u v (S + s) → Level (on_from S b) (on_from S o) u v s
level-off S u v s h = record { first = h.first; second = h.second; both = h.both }

-- ---- the test of a pair in a block, from the differences of its three counts

module _ (words bases base : List ℕ) (u v held both : ℕ)
    (kept : (s : ℕ) → s < 16 → nibble held s ≡ ones (bit_and (get_or bases u 0) (get_or bases v 0)) s)
    (three : (s : ℕ) → s < 16 → eqb (nibble both s) 0 ≡ eqb (nibble held s)
    (ones (bit_and (get_or words u 0) (get_or words v 0)) s)) where
  -- where single wires agree, both together decide
  pub agreed-level : Agree (nibbles_of base) (ones_of words) (length words) 16 → u < length words → v < length words
      → both ≡ 0
      → (s : ℕ) → s < 16 → Level (held_base bases base) (held_in words) u v s
  agreed-level a l m z s k = record {
    first = a u l s k;
    second = a v m s k;
    both = sym (kept s k)
        ∙ same-counts (three s k) (no-nibble s z);
  }

  pub level-agreed : both < 2 ^ 64 → ((s : ℕ) → s < 16 → Level (held_base bases base) (held_in words) u v s) → both ≡ 0
  level-agreed h all = all_same h three (λ s l. kept s l ∙ (all s l).both)

  module _ (first second : ℕ) (one : (s : ℕ) → s < 16 → eqb (nibble first s) 0 ≡ eqb (nibble (get_or base u 0) s)
      (ones (get_or words u 0) s))
      (two : (s : ℕ) → s < 16 → eqb (nibble second s) 0 ≡ eqb (nibble (get_or base v 0) s) (ones (get_or words v 0) s))
    where
      pub none-level : bit_or (bit_or first second) both ≡ 0 → (s : ℕ) → s < 16 → Level (held_base bases base)
          (held_in words) u v s
      none-level z s l =
          let p = or-none (bit_or first second) both z in
          let q = or-none first second p.0 in
          record {
            first = same-counts (one s l) (no-nibble s q.0);
            second = same-counts (two s l) (no-nibble s q.1);
            both = sym (kept s l) ∙ same-counts (three s l) (no-nibble s p.1);
          }

      pub level-none : first < 2 ^ 64 → second < 2 ^ 64 → both < 2 ^ 64
          → ((s : ℕ) → s < 16 → Level (held_base bases base) (held_in words) u v s) → bit_or (bit_or first second) both
          ≡ 0
      level-none f g h all =
          or-both (or-both (all_same f one (λ s l. (all s l).first)) (all_same g two (λ s l. (all s l).second)))
          (all_same h three (λ s l. kept s l ∙ (all s l).both))
