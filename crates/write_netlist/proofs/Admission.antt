-- Question 5 of a netlist of one input value and one output value.
use Prim.Native.Nat.{ℕ, ◌+◌, ◌≤◌}
use mathlib.Core.Path.{◌≡◌, ap, ap₂, ◌∙◌}
use mathlib.Core.Bool.{true, ◌&&◌, and-true}
use mathlib.Core.List.{List, [], ◌∷◌}
use native.Mathlib.Omega.{arith}
use lib.Dec.{leb}
use lib.ListN.{length}
use borrow.Author.Tests.{le-leb, leb-true}
use Rattle.netlist.specs.declared.Limits.{Limits}
use Rattle.netlist.specs.Lists.{sum}
use Rattle.netlist.specs.Netlist.{Netlist, input_bits, output_bits}
use Rattle.netlist.specs.Header.{within_limits}
use Rattle.netlist.specs.Read.{header_of}
use Rattle.netlist.proofs.Tests.{both_true}
use Rattle.write_netlist.specs.Admitted.{admits_one}

pub wires-admitted : (L : Limits) (w : ℕ) → admits_one L w ≡ true → w ≤ L.wires
wires-admitted L w e = leb-true w L.wires (both_true (leb w L.wires) (leb 1 L.inputs)
    (both_true (leb w L.wires && leb 1 L.inputs) (leb 1 L.outputs) e).0).0

-- no more bits than wires are read or put out
pub limits-one : (L : Limits) (N : Netlist) {w i o : ℕ} → N.wires ≡ w → N.inputs ≡ i ∷ [] → N.outputs ≡ o ∷ [] → i ≤ w
    → o ≤ w
    → within_limits L (header_of N) ≡ admits_one L w
limits-one L N {w} {i} {o} W I O few low =
    let a : input_bits N ≡ i + 0 = ap sum I in
    let b : output_bits N ≡ o + 0 = ap sum O in
    let p = ap (λ (n : ℕ). leb n L.wires) W in
    let q = ap (λ (ws : List ℕ). leb (length ws) L.inputs) I in
    let r = ap (λ (ws : List ℕ). leb (length ws) L.outputs) O in
    ap₂ ◌&&◌ (ap₂ ◌&&◌ (ap₂ ◌&&◌ (ap₂ ◌&&◌ p q) r) (le-leb (input_bits N) N.wires (omega (arith, a, W))))
    (le-leb (output_bits N) N.wires (omega (arith, b, W)))
    ∙ and-true (admits_one L w && true) ∙ and-true (admits_one L w)
