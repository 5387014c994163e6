-- The words of the bases where no bit is public: those of setting 0, for all settings.
use mathlib.Core.Path.{◌≡◌, sym, ap, ap₂, ◌∙◌}
use mathlib.Core.Bool.{Bool, true, false}
use mathlib.Core.List.{List}
use Prim.Native.Nat.{ℕ, ◌+◌, ◌*◌, ◌/◌, ◌%◌, ◌^◌, ◌<◌}
use native.Mathlib.Omega.{arith}
use lib.Dec.{ltb}
use lib.ListN.{length, get_or, length-map, get_or-eq_default}
use lib.Seq.{ext_get_or}
use borrow.Author.Tests.{ltb-true, ltb-false}
use Rattle.netlist.specs.Netlist.{Netlist}
use Rattle.netlist.specs.Eval.{wire_bits}
use Rattle.masking.specs.Leak.{masked, Secret}
use Rattle.netlist.proofs.Tests.{on_bool}
use Rattle.evaluate.specs.Lane.{lane, lanes}
use Rattle.evaluate.proofs.Lanes.{lane-zero}
use Rattle.evaluate.proofs.Steps.{get_d-lanes}
use Rattle.leak_search.specs.Paint.{codes_of, paint}
use Rattle.leak_search.specs.Block.{nibble, inputs_at, Evaluated}
use Rattle.leak_search.proofs.Paints.{zero-base}
use Rattle.leak_search.proofs.Numbers.{lane-shift, low-lane}

-- ---- a nibble's lanes

nibble-lane : (w s m : ℕ) → m < 4 → lane (4 * s + m) w ≡ lane m (nibble w s)
nibble-lane w s m l =
    let x = w / 2 ^ (4 * s) in
    let e : 4 * s + m ≡ m + 4 * s = omega arith in
    let d : x ≡ x / 16 * 16 + x % 16 = omega arith in
    ap (λ (j : ℕ). lane j w) e ∙ sym (lane-shift (4 * s) m w) ∙ ap (lane m) d ∙ low-lane 4 m (x / 16) (x % 16) l

-- a word whose nibbles are all the lowest of another
repeat-lanes : (r d : ℕ) → ((s : ℕ) → s < 16 → nibble r s ≡ nibble d 0) → (j : ℕ) → j < 64 → lane j r ≡ lane (j % 4) d
repeat-lanes r d h j l =
    let e : j ≡ 4 * (j / 4) + j % 4 = omega arith in
    let z : 4 * 0 + j % 4 ≡ j % 4 = omega arith in
    ap (λ (k : ℕ). lane k r) e ∙ nibble-lane r (j / 4) (j % 4) (omega arith)
    ∙ ap (lane (j % 4)) (h (j / 4) (omega arith))
    ∙ sym (nibble-lane d 0 (j % 4) (omega arith)) ∙ ap (λ (k : ℕ). lane k d) z

-- so are the words of all wires, and past them the lanes are zero
pub repeated-all : (words bases : List ℕ) → length bases ≡ length words
    → ((v : ℕ) → v < length words → (s : ℕ) → s < 16 → nibble (get_or bases v 0) s ≡ nibble (get_or words v 0) 0)
    → (v j : ℕ) → j < 64 → lane j (get_or bases v 0) ≡ lane (j % 4) (get_or words v 0)
repeated-all words bases e told v j k =
    on_bool (ltb v (length words)) (λ t. repeat-lanes (get_or bases v 0) (get_or words v 0)
    (told v (ltb-true v (length words) t)) j k)
    (λ t.
    let m = ltb-false v (length words) t in
    ap (lane j) (get_or-eq_default bases 0 {n = v} (omega arith)) ∙ lane-zero j
    ∙ sym (ap (lane (j % 4)) (get_or-eq_default words 0 {n = v} m) ∙ lane-zero (j % 4)))

-- ---- without public bits all bases are the setting of number 0

module _ (ps : List ℕ) (secret : Secret (codes_of ps)) where
  -- the inputs of the bases depend on the mask bits alone
  base-inputs : (n : ℕ) → inputs_at false ps n ≡ masked (lane 0 n) (lane 1 n) (codes_of ps) (paint ps 0)
  base-inputs n = ap (masked (lane 0 n) (lane 1 n) (codes_of ps)) (zero-base ps secret (paint ps (n / 4)))

  masks-same : (n m : ℕ) → lane 0 n ≡ lane 0 m → lane 1 n ≡ lane 1 m → inputs_at false ps n ≡ inputs_at false ps m
  masks-same n m p q =
      base-inputs n ∙ ap₂ (λ (a b : Bool). masked a b (codes_of ps) (paint ps 0)) p q ∙ sym (base-inputs m)

  -- so the words of all blocks' bases are the same
  pub same-words : {N : Netlist} {bases : List ℕ} (b block : ℕ) → Evaluated N false ps bases b
      → Evaluated N false ps bases block
  same-words {N} b block r = record {
    each = λ j l.
        r.each j l
        ∙ ap (wire_bits N) (masks-same (b * 64 + j) (block * 64 + j)
        (low-lane 6 0 b j (omega arith) ∙ sym (low-lane 6 0 block j (omega arith)))
        (low-lane 6 1 b j (omega arith) ∙ sym (low-lane 6 1 block j (omega arith))));
  }

  -- they are those of the first block's first setting
  first-inputs : (j : ℕ) → j < 64 → inputs_at true ps (0 * 64 + j % 4) ≡ inputs_at false ps (0 * 64 + j)
  first-inputs j l =
      let n = 0 * 64 + j % 4 in
      let z : n / 4 ≡ 0 = omega arith in
      let e : 0 * 64 + j ≡ j / 4 * 4 + j % 4 = omega arith in
      let d : n ≡ j % 4 = omega arith in
      let same : (i : ℕ) → i < 2 → lane i n ≡ lane i (0 * 64 + j)
      = λ i k. ap (lane i) d ∙ sym (ap (lane i) e ∙ low-lane 2 i (j / 4) (j % 4) k) in
      ap (λ (s : ℕ). masked (lane 0 n) (lane 1 n) (codes_of ps) (paint ps s)) z
      ∙ ap₂ (λ (a b : Bool). masked a b (codes_of ps) (paint ps 0)) (same 0 (omega arith)) (same 1 (omega arith))
      ∙ sym (base-inputs (0 * 64 + j))

  repeated-words : {N : Netlist} {words bases : List ℕ} → Evaluated N true ps words 0 → length bases ≡ length words
      → ((w j : ℕ) → j < 64 → lane j (get_or bases w 0) ≡ lane (j % 4) (get_or words w 0)) → Evaluated N false ps bases
      0
  repeated-words {N} {words} {bases} r e h = record {
    each = λ j l.
        let lists : lanes j bases ≡ lanes (j % 4) words
        = ext_get_or false (lanes j bases) (lanes (j % 4) words)
        (length-map bases (lane j) ∙ e ∙ sym (length-map words (lane (j % 4))))
        (λ i k. get_d-lanes j bases i ∙ h i j l ∙ sym (get_d-lanes (j % 4) words i)) in
        lists ∙ r.each (j % 4) (omega arith) ∙ ap (wire_bits N) (first-inputs j l);
  }

  pub first-words : {N : Netlist} {words bases : List ℕ} {b : ℕ} (block : ℕ) → b ≡ 0 → Evaluated N true ps words b
      → length bases ≡ length words
      → ((w j : ℕ) → j < 64 → lane j (get_or bases w 0) ≡ lane (j % 4) (get_or words w 0)) → Evaluated N false ps bases
      block
  first-words block z r e h = same-words 0 block (repeated-words (rw z at r) e h)
