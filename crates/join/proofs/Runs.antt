-- The bits of the joined netlist's wires: the first's on its inputs, and the second's on the first's outputs and the
-- mask pair.
use Prim.Native.Nat.{ℕ, ◌+◌, ◌-◌, ◌≤◌, ◌<◌}
use mathlib.Core.Path.{◌≡◌, sym, ap, ◌∙◌}
use mathlib.Core.Bool.{Bool, false}
use mathlib.Core.List.{List, [], ◌∷◌}
use native.Mathlib.Omega.{arith}
use lib.Dec.{T}
use lib.ListN.{length, get_or, drop, length-append, length-drop, get_or-append}
use lib.Seq.{get_or-drop, get_or-append-add, ext_get_or}
use Rattle.netlist.specs.declared.Gate.{Gate}
use Rattle.netlist.specs.Netlist.{Netlist, input_bits, output_bits, result}
use Rattle.netlist.specs.Eval.{bits_at, wire_bits, outputs_of}
use Rattle.netlist.specs.Read.{is_given, gates_good, WellFormed}
use Rattle.netlist.proofs.Tests.{all_head, all_tail, all_split}
use Rattle.netlist.proofs.GoodGates.{GoodGate, good_gate, given-none, given-cases, results, every-wire-given}
use Rattle.netlist.proofs.Models.{Models, made-same, bits-satisfy, bits-inputs, length-outputs_of, output-bit}
use Rattle.join.specs.Join.{joined_wire, join}
use Rattle.join.specs.Delivered.{seam_bits}
use Rattle.join.proofs.SeamLaws.{Seam}
use Rattle.join.proofs.Wires.{seam-wire, pair-wire, further-wire, on-wire}
use Rattle.join.proofs.Renumbered.{models-renumbered}
use Rattle.join.proofs.Formed.{input-below, joined-formed}

-- bits that satisfy the same gates and agree on the given wires agree on all that the gates give
models-same : (n W : ℕ) (rs : List ℕ) (gs : List Gate) (u v : ℕ → Bool) → T (gates_good n W rs gs) → Models u gs
    → Models v gs
    → ((w : ℕ) → T (is_given n rs w) → u w ≡ v w) → (w : ℕ) → T (is_given n (results rs gs) w) → u w ≡ v w
models-same n W rs [] u v t m k h = h
models-same n W rs (g ∷ gs) u v t m k h =
    let G : GoodGate n W rs g gs = good_gate t in
    models-same n W (result g ∷ rs) gs u v G.rest (all_tail m) (all_tail k)
    (λ w p. given-cases n rs (result g) w p (λ e. rw e (all_head m ∙ made-same (is_given n rs) u v g G.operands h
    ∙ sym (all_head k))) (λ ne q. h w q))

-- so the bits of all wires are those that satisfy the gates and have the input bits
pub bits-only : {N : Netlist} → WellFormed N → (u : ℕ → Bool) (ins : List Bool) → length ins ≡ input_bits N
    → Models u N.gates
    → ((w : ℕ) → w < input_bits N → u w ≡ get_or ins w false) → (w : ℕ) → w < N.wires → u w
    ≡ bits_at (wire_bits N ins) w
bits-only {N} F u ins l m h w b =
    models-same (input_bits N) N.wires [] N.gates u (bits_at (wire_bits N ins)) F.good m (bits-satisfy F ins)
    (λ a t. let c = given-none (input_bits N) a t in h a c ∙ sym (bits-inputs F ins l a c)) w (every-wire-given F w b)

module _ {A B : Netlist} (S : Seam A B) (ins : List Bool) (l : length ins ≡ input_bits A) where
  abbrev U : ℕ → Bool
  U = bits_at (wire_bits (join A B) ins)

  -- the first's wires
  pub first-bits : (w : ℕ) → w < A.wires → U w ≡ bits_at (wire_bits A ins) w
  first-bits = bits-only S.first U ins l (all_split A.gates (bits-satisfy (joined-formed S) ins)).0
      (bits-inputs (joined-formed S) ins l)

  length-seam_bits : length (seam_bits A ins) ≡ input_bits B
  length-seam_bits =
      let p : 2 ≤ input_bits A = S.pair in
      let m : output_bits A + 2 ≡ input_bits B = S.meets in
      let o : length (outputs_of A ins) ≡ output_bits A = length-outputs_of S.first ins l in
      simp (length-append, length-drop) (omega arith)

  -- the second's inputs
  seam-bits : (w : ℕ) → w < input_bits B → U (joined_wire A B w) ≡ get_or (seam_bits A ins) w false
  seam-bits w h =
      let i : input_bits A ≤ A.wires = S.first.inputs_fit in
      let p : 2 ≤ input_bits A = S.pair in
      let m : output_bits A + 2 ≡ input_bits B = S.meets in
      let o : length (outputs_of A ins) ≡ output_bits A = length-outputs_of S.first ins l in
      first-bits (joined_wire A B w) (input-below S w h)
      ∙ on-wire (input_bits B) w
      (λ k. rw (seam-wire A B w k) (sym (get_or-append (outputs_of A ins) _ false w (omega arith)
      ∙ output-bit A ins w)))
      (λ k k'. let z : w ≡ length (outputs_of A ins) + (w - (input_bits B - 2)) = omega arith in
      rw (pair-wire A B w k k')
      (bits-inputs S.first ins l (input_bits A - 2 + (w - (input_bits B - 2))) (omega arith)
      ∙ sym (ap (λ (a : ℕ). get_or (seam_bits A ins) a false) z
      ∙ get_or-append-add (outputs_of A ins) (drop (input_bits A - 2) ins) (w - (input_bits B - 2)) false
      ∙ get_or-drop (input_bits A - 2) ins (w - (input_bits B - 2)) false)))
      (λ k. absurd (omega arith))

  -- all of the second's wires
  pub second-bits : (w : ℕ) → w < B.wires → U (joined_wire A B w) ≡ bits_at (wire_bits B (seam_bits A ins)) w
  second-bits = bits-only S.second (λ w. U (joined_wire A B w)) (seam_bits A ins) length-seam_bits
      (models-renumbered U (joined_wire A B) B.gates (all_split A.gates (bits-satisfy (joined-formed S) ins)).1)
      seam-bits

  -- the joined outputs are the second's outputs on the first's outputs and the mask pair
  pub joined-outputs : outputs_of (join A B) ins ≡ outputs_of B (seam_bits A ins)
  joined-outputs =
      let k : input_bits B ≤ B.wires = S.second.inputs_fit in
      let c : length B.gates ≡ B.wires - input_bits B = S.second.gate_count in
      let g : output_bits B ≤ length B.gates = S.gates in
      let p : length (outputs_of (join A B) ins) ≡ output_bits B = length-outputs_of (joined-formed S) ins l in
      let q : length (outputs_of B (seam_bits A ins)) ≡ output_bits B = length-outputs_of S.second (seam_bits A ins)
      length-seam_bits in
      ext_get_or false (outputs_of (join A B) ins) (outputs_of B (seam_bits A ins)) (omega arith)
      (λ i h. let w = B.wires - output_bits B + i in
      let z : (join A B).wires - output_bits B + i ≡ joined_wire A B w = rw (further-wire A B w (omega arith))
      (omega arith) in
      output-bit (join A B) ins i ∙ ap U z ∙ second-bits w (omega arith) ∙ sym (output-bit B (seam_bits A ins) i))
