-- The bits of a wire, stored block by block.
use mathlib.Core.Path.{◌≡◌, refl, sym, ap, ◌∙◌, subst}
use mathlib.Core.Bool.{Bool}
use mathlib.Core.List.{List}
use Prim.Native.Nat.{ℕ, ◌+◌, ◌-◌, ◌*◌, ◌/◌, ◌^◌, ◌≤◌, ◌<◌}
use native.Mathlib.Omega.{arith}
use borrow.Author.Count.{below_more}
use borrow.Author.Tests.{ltb-true, ltb-false}
use lib.Dec.{ltb}
use lib.ListN.{length, get_or, set, length-set}
use lib.Pow.{pow-add}
use lib.Seq.{get_or-set_same, get_or-set_other}
use Rattle.netlist.specs.Netlist.{Netlist}
use Rattle.netlist.specs.Table.{Tables, Holds}
use Rattle.netlist.specs.Eval.{bit, bits_at, wire_bits}
use Rattle.netlist.proofs.Tests.{on_bool}
use Rattle.evaluate.specs.Bare.{bare}
use Rattle.evaluate.specs.Lane.{lane}
use Rattle.evaluate.proofs.Runs.{bare-wires}
use Rattle.evaluate.proofs.Steps.{get_d-lanes}
use Rattle.leak_search.specs.Paint.{paint_each, codes_of, paint}
use Rattle.leak_search.specs.Base.{part}
use Rattle.leak_search.specs.Block.{inputs_at, Evaluated}
use Rattle.leak_search.proofs.Paints.{codes-each, paint-each}
use Rattle.masking.specs.Leak.{masked, setting}
use Rattle.explain.specs.Table.{Stored}
use Rattle.explain.specs.Wire.{wire_bit}

-- ---- one word

pub record Storing (word from : ℕ) (t₀ t : List ℕ) (j : ℕ) : Type 0 where
  pub long : length t ≡ length t₀
  pub inside : (i : ℕ) → i < j → from + i < length t₀ → get_or t (from + i) 0 ≡ bit (lane i word)
  pub earlier : (i : ℕ) → i < from → get_or t i 0 ≡ get_or t₀ i 0

pub storing-none : (word from : ℕ) (t : List ℕ) → Storing word from t t 0
storing-none word from t = record { long = refl; inside = λ i l k. absurd (omega arith); earlier = λ i l. refl }

pub storing-more : {word from : ℕ} {t₀ t : List ℕ} {j : ℕ} (x : ℕ) → Storing word from t₀ t j → x ≡ bit (lane j word)
    → Storing word from t₀ (set t (from + j) x) (j + 1)
storing-more {word} {from} {t₀} {t} {j} x r e = record {
  long = length-set t (from + j) x ∙ r.long;
  inside = below_more (λ i. from + i < length t₀ → get_or (set t (from + j) x) (from + i) 0 ≡ bit (lane i word)) j
      (λ i l k. get_or-set_other t (from + j) (from + i) x 0 (omega arith) ∙ r.inside i l k)
      (λ k. get_or-set_same t (from + j) x 0 (omega (arith, k, r.long)) ∙ e);
  earlier = λ i l. get_or-set_other t (from + j) i x 0 (omega arith) ∙ r.earlier i l;
}

-- ---- all blocks

pub record Laid (N : Netlist) (secrets : Bool) (ps : List ℕ) (wire W blocks : ℕ) (t₀ words t : List ℕ) (block : ℕ)
    : Type 0 where
  pub passed : block ≤ blocks
  pub long-words : length words ≡ W
  pub long : length t ≡ length t₀
  pub each : (i : ℕ) → i < length t₀ → i < block * 64
      → get_or t i 0 ≡ bit (bits_at (wire_bits N (inputs_at secrets ps i)) wire)

pub laid-none : (N : Netlist) (secrets : Bool) (ps : List ℕ) (wire W blocks : ℕ) (t words : List ℕ) → length words ≡ W
    → Laid N secrets ps wire W blocks t words t 0
laid-none N secrets ps wire W blocks t words e = record {
  passed = omega arith;
  long-words = e;
  long = refl;
  each = λ i l k. absurd (omega arith);
}

pub laid-more : {N : Netlist} {secrets : Bool} {ps : List ℕ} {wire W blocks : ℕ} {t₀ words t : List ℕ} {block : ℕ}
    → Laid N secrets ps wire W blocks t₀ words t block → block < blocks → (us t' : List ℕ) (from : ℕ)
    → length us ≡ length words → length t' ≡ length t → Evaluated N secrets ps us block → from ≡ block * 64
    → Stored (get_or us wire 0) from t t'
    → Laid N secrets ps wire W blocks t₀ us t' (block + 1)
laid-more {N} {secrets} {ps} {wire} {t₀ = t₀} {t = t} {block = block} r l us t' from e d ran at stored = record {
  passed = omega arith;
  long-words = e ∙ r.long-words;
  long = d ∙ r.long;
  each = λ i b k. on_bool (ltb i (block * 64))
      (λ q. let h = ltb-true i (block * 64) q in stored.earlier i (omega (arith, h, at)) ∙ r.each i b h)
      (λ q.
      let h = ltb-false i (block * 64) q in
      let j = i - block * 64 in
      let s : block * 64 + j ≡ i = omega arith in
      let p : from + j ≡ i = omega (arith, s, at) in
      subst (λ (i : ℕ). get_or t' i 0 ≡ bit (bits_at (wire_bits N (inputs_at secrets ps i)) wire)) s
      (ap (λ (f : ℕ). get_or t' (f + j) 0) (sym at)
      ∙ stored.inside j (omega arith) (omega (arith, p, b, r.long))
      ∙ ap bit (sym (get_d-lanes j us wire) ∙ ap (λ (v : List Bool). bits_at v wire) (ran.each j (omega arith)))));
}

-- ---- a colour for each input

pub bits-told : {t : Tables} {m W n o : ℕ} {N : Netlist} → Holds t m W n o N → (secrets : Bool) (codes : List ℕ)
    → ((i : ℕ) → i < length codes → get_or codes i 0 < 4) → (wire i : ℕ)
    → bits_at (wire_bits (bare t m W) (inputs_at secrets (paint_each 0 codes) i)) wire
    ≡ wire_bit N secrets codes wire i
bits-told {N = N} h secrets codes small wire i =
    ap (λ (v : List Bool). bits_at v wire) (bare-wires h (inputs_at secrets (paint_each 0 codes) i)
    ∙ ap (wire_bits N) (inputs (codes_of (paint_each 0 codes)) (paint (paint_each 0 codes) (i / 4))
    (codes-each 0 codes small)
    (paint-each 0 codes (i / 4) (i / 4) small (λ j. let e : 0 + j ≡ j = omega arith
    in ap (λ (k : ℕ). lane k (i / 4)) e))))
  where
    inputs : (es : List ℕ) (x : List Bool) → es ≡ codes → x ≡ setting (length codes) (i / 4)
        → masked (lane 0 i) (lane 1 i) es (part secrets es x)
        ≡ masked (lane 0 i) (lane 1 i) codes (part secrets codes (setting (length codes) (i / 4)))
    inputs es x e d = rw (e, d) refl

-- there are as many blocks as numbers
pub enough : (k B : ℕ) → 2 ^ k ≤ B * 16 → 2 ^ (k + 2) ≤ B * 64
enough k B l = let p = pow-add 2 k 2 in omega arith
