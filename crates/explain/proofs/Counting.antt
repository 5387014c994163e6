-- From a table of a wire's bits to its counts, and what they say.
use Rattle.std.specs.Prelude.{Option, Some, None}
use mathlib.Core.Path.{◌≡◌, refl, sym, ap, ap₂, ◌∙◌}
use mathlib.Core.Bool.{Bool, true, false}
use mathlib.Core.List.{List, ◌∷◌}
use Prim.Native.Nat.{ℕ, zero, suc, ◌+◌, ◌*◌, ◌/◌, ◌^◌, ◌≤◌, ◌<◌}
use native.Mathlib.Omega.{arith}
use lib.ListN.{length, get_or}
use Rattle.netlist.specs.Netlist.{Netlist}
use Rattle.netlist.specs.Eval.{bit, bits_at, wire_bits}
use Rattle.masking.specs.Leak.{count, masked, setting, count_at, base_at}
use Rattle.evaluate.specs.Lane.{lane}
use Rattle.leak_search.specs.Base.{part}
use Rattle.leak_search.proofs.Numbers.{low-lane}
use Rattle.causes.proofs.Testing.{at-level, level-at, level-equal, equal-level}
use Rattle.explain.specs.Table.{Bits, table_count}
use Rattle.explain.specs.Wire.{wire_bit}
use Rattle.explain.specs.Counts.{settings_with, lightest, witness_numbers, counts_of, counts}
use Rattle.explain.specs.Counts.{WireCounted}
use Rattle.explain.proofs.Lightest.{Lightest, lightest-is, counts-same}

module _ (N : Netlist) (codes : List ℕ) (w : ℕ) where
  abbrev k : ℕ
  k = length codes

  -- a setting's four entries
  pub table-counted : (secrets : Bool) (T : List ℕ) → Bits (wire_bit N secrets codes w) T → 4 * 2 ^ k ≤ length T
      → (s : ℕ) → s < 2 ^ k → table_count T s ≡ count N codes w (part secrets codes (setting k s))
  unfolding count
  table-counted secrets T h long s l =
      let z : 4 * s + 0 ≡ 4 * s = omega arith in
      ap₂ ◌+◌ (ap₂ ◌+◌ (ap₂ ◌+◌ (ap (λ (i : ℕ). get_or T i 0) (sym z) ∙ one 0 (omega arith)) (one 1 (omega arith)))
      (one 2 (omega arith))) (one 3 (omega arith))
    where
      one : (m : ℕ) → m < 4 → get_or T (4 * s + m) 0
          ≡ bit (bits_at (wire_bits N (masked (lane 0 m) (lane 1 m) codes (part secrets codes (setting k s)))) w)
      one m b =
          let q : (4 * s + m) / 4 ≡ s = omega arith in
          let e : 4 * s + m ≡ s * 2 ^ 2 + m = omega arith in
          let m0 : lane 0 (4 * s + m) ≡ lane 0 m = ap (lane 0) e ∙ low-lane 2 0 s m (omega arith) in
          let m1 : lane 1 (4 * s + m) ≡ lane 1 m = ap (lane 1) e ∙ low-lane 2 1 s m (omega arith) in
          h (4 * s + m) (omega arith) ∙ rw (m0, m1, q) refl

  pub counts-law : (B T : List ℕ) → Bits (wire_bit N false codes w) B → Bits (wire_bit N true codes w) T
      → 4 * 2 ^ k ≤ length B → 4 * 2 ^ k ≤ length T
      → counts_of (table_count B) (table_count T) k (2 ^ k) ≡ counts N codes w
  unfolding counts
  counts-law B T b t lb lt =
      counts-same (table_count B) (table_count T) (base_at N codes w) (count_at N codes w) k (2 ^ k)
      (λ s l. table-counted false B b lb s l) (λ s l. table-counted true T t lt s l)

  -- ---- what the numbers say

  abbrev f : ℕ → ℕ
  f = base_at N codes w

  abbrev g : ℕ → ℕ
  g = count_at N codes w

  abbrev S : ℕ
  S = 2 ^ k

  abbrev list : Option ℕ → List ℕ
  list o = settings_with g 0 S ∷ settings_with g 1 S ∷ settings_with g 2 S ∷ settings_with g 3 S
      ∷ settings_with g 4 S ∷ witness_numbers f g o

  told : (o : Option ℕ) (c : ℕ) → c < 5 → get_or (list o) c 0 ≡ settings_with g c S
  told o zero l = refl
  told o (suc zero) l = refl
  told o (suc (suc zero)) l = refl
  told o (suc (suc (suc zero))) l = refl
  told o (suc (suc (suc (suc zero)))) l = refl
  told o (suc (suc (suc (suc (suc c))))) l = absurd (omega arith)

  counted : (o : Option ℕ) → Lightest f g k S o → WireCounted N codes w (list o)
  counted None h = record {
    each = told None;
    clean = λ e. level-equal N codes w (at-level N codes w h);
    witness = λ n. absurd (n refl);
  }
  counted (Some b) h = record {
    each = told (Some b);
    clean = λ e. absurd (omega (arith, e));
    witness = λ n. record {
      inside = h.0;
      is_base = refl;
      is_own = refl;
      other = h.1;
      leaks = λ e. h.1 (level-at N codes w (equal-level N codes w e) b h.0);
      least = λ s l d. h.2 s l d;
    };
  }

  pub counts-told : WireCounted N codes w (counts N codes w)
  unfolding counts
  counts-told = counted (lightest f g k S) (lightest-is f g k S)
