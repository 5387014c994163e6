-- `certify_pass::pass::run` meets its contract.
use mathlib.Core.Path.{◌≡◌}
use Prim.Native.Nat.{ℕ}
use mathlib.Core.List.{List}
use lib.ListN.{length}
use Rattle.netlist.specs.Netlist.{Netlist}
use Rattle.netlist.specs.Table.{gates_of}
use Rattle.gates.specs.Gates.{HoldsGates, tables_of}
use Rattle.certify.specs.Pass.{Holding, Masked}
use Rattle.certify.specs.Step.{state, run_of}
use Rattle.certify.proofs.pass.run.Given as goal

abbrev pub invariant-loop-i : goal.invariant-loop-i
invariant-loop-i l =
    ((n o : ℕ) (N : Netlist) (codes : List ℕ) → HoldsGates l.gates (length l.initial.marks) n o N → Masked N codes
    → Holding N codes l.initial.records l.initial.marks → Holding N codes l.records l.marks)
    × (state l.records l.marks l.hints
    ≡ run_of (state l.initial.records l.initial.marks l.initial.hints) (gates_of (tables_of l.gates) l.i))
