-- Settings that agree in the inputs that reach a wire give it the same counts, and so do their bases.
use Prim.Native.Nat.{ℕ, ◌+◌, ◌-◌, ◌≤◌, ◌<◌}
use mathlib.Core.Path.{◌≡◌, sym, ap, ap₂, ◌∙◌}
use mathlib.Core.Bool.{Bool, false, ◌&&◌}
use mathlib.Core.List.{List}
use native.Mathlib.Omega.{arith}
use lib.Dec.{T, ltb}
use lib.ListN.{length, get_or}
use borrow.Author.Tests.{ltb-true, ltb-false}
use Rattle.netlist.specs.Netlist.{Netlist}
use Rattle.netlist.specs.Eval.{differs, bits_at, wire_bits}
use Rattle.masking.specs.Mask.{is_public}
use Rattle.masking.specs.Leak.{mask_of, masked, count, public_only}
use Rattle.netlist.proofs.Tests.{on_bool}
use Rattle.masking.proofs.MaskedBits.{count_of-same, length-masked, masked-at, masked-pair}
use Rattle.masking.proofs.Settings.{length-public_only, public_only-at}
use Rattle.check_pairs.specs.Pairs.{both_count}
use Rattle.check_wide.specs.Reach.{reaches}
use Rattle.check_wide.proofs.Depends.{wire-depends}

module _ (N : Netlist) (codes : List ℕ) where
  -- two settings agree in the inputs that reach wire w
  pub record Alike (w : ℕ) (x y : List Bool) : Type 0 where
    pub left : length x ≡ length codes
    pub right : length y ≡ length codes
    pub each : (i : ℕ) → i < length codes → T (reaches N i w) → get_or x i false ≡ get_or y i false

  pub base-alike : {w : ℕ} {x y : List Bool} → Alike w x y → Alike w (public_only codes x) (public_only codes y)
  base-alike {w} {x} {y} A = record {
    left = length-public_only codes x;
    right = length-public_only codes y;
    each = λ i l t. public_only-at codes x i l ∙ ap (λ (b : Bool). is_public (get_or codes i 0) && b) (A.each i l t)
        ∙ sym (public_only-at codes y i l);
  }

  module _ (fits : length codes + 2 ≤ N.wires) where
    inputs-alike : (m0 m1 : Bool) {w : ℕ} {x y : List Bool} → Alike w x y → (i : ℕ) → T (reaches N i w)
        → get_or (masked m0 m1 codes x) i false ≡ get_or (masked m0 m1 codes y) i false
    inputs-alike m0 m1 {w} {x} {y} A i t =
        let n = length codes in
        on_bool (ltb i n)
        (λ b. let l : i < n = ltb-true i n b in
        masked-at m0 m1 codes x A.left i l ∙ ap (λ (z : Bool). differs z (mask_of m0 m1 (get_or codes i 0)))
        (A.each i l t)
        ∙ sym (masked-at m0 m1 codes y A.right i l))
        (λ b. let l : n ≤ i = ltb-false i n b in
        let e : i ≡ n + (i - n) = omega arith in
        masked-pair m0 m1 codes x (i - n) i e ∙ sym (masked-pair m0 m1 codes y (i - n) i e))

    bit-alike : (m0 m1 : Bool) {w : ℕ} {x y : List Bool} → Alike w x y
        → bits_at (wire_bits N (masked m0 m1 codes x)) w ≡ bits_at (wire_bits N (masked m0 m1 codes y)) w
    bit-alike m0 m1 {w} {x} {y} A =
        let p = length-masked m0 m1 codes x in
        let q = length-masked m0 m1 codes y in
        wire-depends N (masked m0 m1 codes x) (masked m0 m1 codes y) w (omega arith) (omega arith)
        (inputs-alike m0 m1 A)

    pub count-alike : {w : ℕ} {x y : List Bool} → Alike w x y → count N codes w x ≡ count N codes w y
    unfolding count
    count-alike A = count_of-same _ _ (λ m0 m1. bit-alike m0 m1 A)

    pub both-alike : {u v : ℕ} {x y : List Bool} → Alike u x y → Alike v x y → both_count N codes u v x
        ≡ both_count N codes u v y
    unfolding both_count
    both-alike A B = count_of-same _ _ (λ m0 m1. ap₂ ◌&&◌ (bit-alike m0 m1 A) (bit-alike m0 m1 B))
