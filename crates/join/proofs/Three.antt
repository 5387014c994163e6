-- Three netlists joined: the very same netlist, whichever seam is closed first, and so the same text.
use Prim.Native.Nat.{ℕ, ◌+◌, ◌-◌, ◌≤◌}
use mathlib.Core.Path.{◌≡◌, sym, ap, ◌∙◌}
use mathlib.Core.List.{List, ◌++◌, map, append_assoc, map-append}
use native.Mathlib.Omega.{arith}
use lib.ListN.{length}
use Rattle.netlist.specs.declared.Gate.{Gate}
use Rattle.netlist.specs.Netlist.{Netlist, input_bits, output_bits}
use Rattle.netlist.specs.Write.{write_netlist}
use Rattle.join.specs.Join.{joined_wire, renumbered, join}
use Rattle.join.proofs.SeamLaws.{Seam}
use Rattle.join.proofs.Wires.{seam-wire, pair-wire, further-wire, on-wire}
use Rattle.join.proofs.Renumbered.{gates-twice}

module _ {A B C : Netlist} (S : Seam A B) (R : Seam B C) where
  -- a wire of the third goes where it went through the second
  through : (w : ℕ) → joined_wire A B (joined_wire B C w) ≡ joined_wire (join A B) C w
  through w =
      let i : input_bits B ≤ B.wires = S.second.inputs_fit in
      let g : output_bits B ≤ length B.gates = S.gates in
      let c : length B.gates ≡ B.wires - input_bits B = S.second.gate_count in
      let m : output_bits B + 2 ≡ input_bits C = R.meets in
      let p : 2 ≤ input_bits B = R.pair in
      on-wire (input_bits C) w
      (λ h. rw (
        seam-wire B C w h,
        seam-wire (join A B) C w h,
        further-wire A B (B.wires - output_bits B + w)
            (omega arith),
      ) (omega arith))
      (λ l h. rw (
        pair-wire B C w l h,
        pair-wire (join A B) C w l h,
        pair-wire A B
            (input_bits B - 2 + (w - (input_bits C - 2))) (omega arith) (omega arith),
      )
      (omega arith))
      (λ l. rw (
        further-wire B C w l,
        further-wire (join A B) C w l,
        further-wire A B (B.wires + w - input_bits C)
            (omega arith),
      ) (omega arith))

  pub join-three : join (join A B) C ≡ join A (join B C)
  join-three =
      let i : input_bits B ≤ B.wires = S.second.inputs_fit in
      let k : input_bits C ≤ C.wires = R.second.inputs_fit in
      let f = renumbered (joined_wire A B) in
      let w : A.wires + B.wires - input_bits B + C.wires - input_bits C ≡ A.wires + (B.wires + C.wires - input_bits C) -
      input_bits B = omega arith in
      let g : (A.gates ++ map f B.gates) ++ map (renumbered (joined_wire (join A B) C)) C.gates
      ≡ A.gates ++ map f (B.gates ++ map (renumbered (joined_wire B C)) C.gates)
      = append_assoc A.gates _ _
      ∙ ap (λ (gs : List Gate). A.gates ++ (map f B.gates ++ gs)) (sym (gates-twice _ _ _ through C.gates))
      ∙ ap (λ (gs : List Gate). A.gates ++ gs) (sym (map-append f B.gates _)) in
      λ j. record { wires = w j; inputs = A.inputs; outputs = C.outputs; gates = g j }

  pub same_text : write_netlist (join (join A B) C) ≡ write_netlist (join A (join B C))
  same_text = ap write_netlist join-three
