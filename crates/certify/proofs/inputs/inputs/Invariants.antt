-- `certify_pass::inputs::inputs` meets its contract.
use mathlib.Core.Path.{◌≡◌}
use mathlib.Core.List.{List}
use Prim.Native.Nat.{ℕ}
use Rattle.netlist.specs.Netlist.{Netlist}
use Rattle.certify.specs.Pass.{Holding, Masked}
use Rattle.certify.specs.Step.{state, inputs_to}
use Rattle.certify.proofs.inputs.inputs.Given as goal

abbrev pub invariant-loop-i : goal.invariant-loop-i
invariant-loop-i l =
    ((N : Netlist) → Masked N l.codes → Holding N l.codes l.initial.records l.initial.marks
    → Holding N l.codes l.records l.marks)
    × ((h : List ℕ) → state l.records l.marks h ≡ inputs_to l.codes l.i (state l.initial.records l.initial.marks h))
