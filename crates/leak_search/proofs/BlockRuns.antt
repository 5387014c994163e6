-- After a run of a block, its words hold the counts of its settings.
use mathlib.Core.Path.{◌≡◌, sym, ap, ap₂, ◌∙◌}
use mathlib.Core.Bool.{Bool}
use mathlib.Core.List.{List}
use Prim.Native.Nat.{ℕ, ◌+◌, ◌*◌, ◌/◌, ◌<◌}
use native.Mathlib.Omega.{arith}
use lib.ListN.{get_or}
use Rattle.netlist.specs.Netlist.{Netlist}
use Rattle.netlist.specs.Eval.{bits_at, wire_bits, bit}
use Rattle.masking.specs.Leak.{masked, count}
use Rattle.evaluate.specs.Lane.{lane}
use Rattle.evaluate.proofs.Steps.{get_d-lanes}
use Rattle.leak_search.specs.Paint.{codes_of, paint}
use Rattle.leak_search.specs.Base.{part}
use Rattle.leak_search.specs.Block.{inputs_at, ones_of, Evaluated, Counted}
use Rattle.leak_search.proofs.Numbers.{low-lane}

module _ {N : Netlist} {secrets : Bool} {ps : List ℕ} {block : ℕ} {us : List ℕ} (ran : Evaluated N secrets ps us block)
  where
    -- the setting that a number belongs to
    abbrev at : ℕ → List Bool
    at s = part secrets (codes_of ps) (paint ps (block * 16 + s))

    -- wire w in lane m of setting s, whose mask bits are m's
    pub wire-lane : (w s m : ℕ) → s < 16 → m < 4 → lane (4 * s + m) (get_or us w 0)
        ≡ bits_at (wire_bits N (masked (lane 0 m) (lane 1 m) (codes_of ps) (at s))) w
    wire-lane w s m l k =
        let n = block * 64 + (4 * s + m) in
        let q : n / 4 ≡ block * 16 + s = omega arith in
        let e : n ≡ (block * 16 + s) * 4 + m = omega arith in
        let m0 : lane 0 n ≡ lane 0 m = ap (lane 0) e ∙ low-lane 2 0 (block * 16 + s) m (omega arith) in
        let m1 : lane 1 n ≡ lane 1 m = ap (lane 1) e ∙ low-lane 2 1 (block * 16 + s) m (omega arith) in
        let o : inputs_at secrets ps n ≡ masked (lane 0 m) (lane 1 m) (codes_of ps) (at s) = rw (m0, m1, q) in
        sym (get_d-lanes (4 * s + m) us w) ∙ ap (λ (v : List Bool). bits_at v w) (ran.each (4 * s + m) (omega arith)
        ∙ ap (wire_bits N) o)

    one : (w s m : ℕ) → s < 16 → m < 4 → bit (lane (4 * s + m) (get_or us w 0))
        ≡ bit (bits_at (wire_bits N (masked (lane 0 m) (lane 1 m) (codes_of ps) (at s))) w)
    one w s m l k = ap bit (wire-lane w s m l k)

    pub run-block-law : Counted N secrets ps (ones_of us) block
    unfolding count
    run-block-law = record {
      each = λ w s l.
          let z : 4 * s ≡ 4 * s + 0 = omega arith in
          ap₂ ◌+◌
          (ap₂ ◌+◌ (ap₂ ◌+◌ (ap (λ (j : ℕ). bit (lane j (get_or us w 0))) z ∙ one w s 0 l (omega arith))
          (one w s 1 l (omega arith)))
          (one w s 2 l (omega arith)))
          (one w s 3 l (omega arith));
    }
