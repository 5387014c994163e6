-- Where the wires of the second go.
use Prim.Native.Nat.{ℕ, ◌+◌, ◌-◌, ◌≤◌, ◌<◌}
use mathlib.Core.Path.{◌≡◌, refl}
use native.Mathlib.Omega.{arith}
use lib.Dec.{ltb}
use borrow.Author.Tests.{ltb-true, ltb-false, lt-ltb, le-ltb}
use Rattle.netlist.specs.Netlist.{Netlist, input_bits, output_bits}
use Rattle.netlist.proofs.Tests.{on_bool}
use Rattle.join.specs.Join.{moved_wire, joined_wire}

-- an input bit, one of the mask pair, a further wire
module _ (W o i n w : ℕ) where
  pub moved-input : w < n - 2 → moved_wire W o i n w ≡ W - o + w
  moved-input h = rw (lt-ltb w (n - 2) h) refl

  pub moved-pair : n - 2 ≤ w → w < n → moved_wire W o i n w ≡ i - 2 + (w - (n - 2))
  moved-pair l h = rw (le-ltb w (n - 2) l, lt-ltb w n h) refl

  pub moved-further : n ≤ w → moved_wire W o i n w ≡ W + w - n
  moved-further l = let k : n - 2 ≤ w = omega arith in rw (le-ltb w (n - 2) k, le-ltb w n l) refl

-- of two netlists
module _ (A B : Netlist) (w : ℕ) where
  pub seam-wire : w < input_bits B - 2 → joined_wire A B w ≡ A.wires - output_bits A + w
  seam-wire = moved-input A.wires (output_bits A) (input_bits A) (input_bits B) w

  pub pair-wire : input_bits B - 2 ≤ w → w < input_bits B → joined_wire A B w
      ≡ input_bits A - 2 + (w - (input_bits B - 2))
  pair-wire = moved-pair A.wires (output_bits A) (input_bits A) (input_bits B) w

  pub further-wire : input_bits B ≤ w → joined_wire A B w ≡ A.wires + w - input_bits B
  further-wire = moved-further A.wires (output_bits A) (input_bits A) (input_bits B) w

-- each wire is one of the three
pub on-wire : {P : Type 0} (n w : ℕ) → (w < n - 2 → P) → (n - 2 ≤ w → w < n → P) → (n ≤ w → P) → P
on-wire n w f g h =
    on_bool (ltb w (n - 2)) (λ e. f (ltb-true w (n - 2) e))
    (λ e. on_bool (ltb w n) (λ d. g (ltb-false w (n - 2) e) (ltb-true w n d)) (λ d. h (ltb-false w n d)))
